use Prim.Native.Nat.{◌≤◌}
use Rattle.sheet.proofs.Tests.{Counted}
use Rattle.sheet.proofs.waiting.test_in_order.Given as goal

-- The nodes left decide, from the counts so far, as all nodes do from none.
abbrev pub invariant-loop-byte : goal.invariant-loop-byte
invariant-loop-byte l =
    record { waiting_fits : l.waiting ≤ l.byte-index; leaves_fit : l.leaves ≤ l.byte-index; counted : Counted l.nodes l.byte-index l.waiting l.most l.leaves }
