use mathlib.Core.Path.{sym, ◌∙◌}
use native.Mathlib.Omega.{arith}
use Rattle.bits.proofs.Tables.{word_begun, word_done, later_none, bit_taken, sift_start, sift_same, kept_in, kept_out, sift_end}
use Rattle.bits.proofs.sift.Goals as goal

pub loop-i-init : goal.loop-i-init
loop-i-init c = sift_start c.args.from _

pub loop-b-init : goal.loop-b-init
loop-b-init c = sift_same c.loop-i.invariant (λ x. sym (word_begun c.args.from c.loop-i.i (omega arith) x))

pub loop-b-preserved-then-meets : goal.loop-b-preserved-then-meets
loop-b-preserved-then-meets c =
    let low = c.in-Some.ensures in
    kept_in c.loop-b.invariant c.loop-i.i c.in-Some.b (rw low.left (bit_taken c.args.from c.loop-i.i c.loop-b.word c.in-Some.b low.lowest))
    (omega arith) low.lowest.within (sym c.meets.ensures ∙ c.if-meets.true)

pub loop-b-preserved : goal.loop-b-preserved
loop-b-preserved c =
    let low = c.in-Some.ensures in
    kept_out c.loop-b.invariant _ (rw low.left (bit_taken c.args.from c.loop-i.i c.loop-b.word c.in-Some.b low.lowest)) (sym c.meets.ensures ∙ c.if-meets.false)

pub loop-i-preserved : goal.loop-i-preserved
loop-i-preserved c = sift_same c.loop-b.invariant (λ x. rw c.in_default.ensures (word_done c.args.from c.loop-i.i x))

pub returns : goal.returns
returns c = sift_end c.loop-i.invariant (λ x. later_none c.args.from c.loop-i.i x (omega arith))
