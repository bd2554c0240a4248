use mathlib.Core.Path.{sym}
use native.Mathlib.Omega.{arith}
use Rattle.bits.proofs.Tables.{word_begun, word_done, later_none, bit_taken, link_start, link_same, link_turn, link_end}
use Rattle.bits.proofs.link.Goals as goal

pub loop-i-init : goal.loop-i-init
loop-i-init c = link_start c.args.table.now c.args.from c.args.to

pub loop-b-init : goal.loop-b-init
loop-b-init c = link_same c.loop-i.invariant (λ p. sym (word_begun c.args.from c.loop-i.i (omega arith) p))

pub loop-b-preserved : goal.loop-b-preserved
loop-b-preserved c =
    let low = c.in-Some.ensures in
    link_turn c.loop-b.invariant c.union.result _ (rw low.left (bit_taken c.args.from c.loop-i.i c.loop-b.word c.in-Some.b low.lowest))
    (omega (arith, low.lowest.within)) c.union.ensures

pub loop-i-preserved : goal.loop-i-preserved
loop-i-preserved c = link_same c.loop-b.invariant (λ p. rw c.in_default.ensures (word_done c.args.from c.loop-i.i p))

pub returns : goal.returns
returns c = link_end c.loop-i.invariant (λ p. later_none c.args.from c.loop-i.i p (omega arith))
