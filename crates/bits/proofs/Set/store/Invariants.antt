use Rattle.bits.proofs.Bytes.{Storing}
use Rattle.bits.proofs.Set.store.Given as goal

abbrev pub invariant-loop-i : goal.invariant-loop-i
invariant-loop-i l =
    Storing l.initial.row l.row l.self l.i
