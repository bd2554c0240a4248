use Rattle.bits.proofs.Tables.{later, left, Linking}
use Rattle.bits.proofs.link.Given as goal

abbrev pub invariant-loop-i : goal.invariant-loop-i
invariant-loop-i l =
    Linking l.fn.table l.from l.to (later l.from l.i) l.table

abbrev pub invariant-loop-b : goal.invariant-loop-b
invariant-loop-b l =
    Linking l.fn.table l.from l.to (left l.from l.i l.word) l.table

abbrev pub decreases-loop-b : goal.decreases-loop-b
decreases-loop-b l =
    l.word
