use lib.ListN.{get_or}
use Rattle.bits.specs.Sets.{empty_set, share}
use Rattle.bits.proofs.Tables.{later, left, Sifting}
use Rattle.bits.proofs.sift.Given as goal

abbrev pub invariant-loop-i : goal.invariant-loop-i
invariant-loop-i l =
    Sifting l.from (λ x. share (get_or l.table x empty_set) l.other) (later l.from l.i) l.words

abbrev pub invariant-loop-b : goal.invariant-loop-b
invariant-loop-b l =
    Sifting l.from (λ x. share (get_or l.table x empty_set) l.other) (left l.from l.i l.word) l.words

abbrev pub decreases-loop-b : goal.decreases-loop-b
decreases-loop-b l =
    l.word
