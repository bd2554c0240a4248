use Rattle.bits.proofs.Least.{Clear}
use Rattle.bits.proofs.Set.least_from.Given as goal

abbrev pub invariant-loop-i : goal.invariant-loop-i
invariant-loop-i l =
    Clear l.self l.bound l.i
