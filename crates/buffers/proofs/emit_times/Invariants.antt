use lib.ListN.{replicate}
use Prim.Native.Nat.{◌+◌}
use Rattle.buffers.specs.Wrote.{Wrote}
use Rattle.buffers.proofs.emit_times.Given as goal

abbrev pub invariant-loop-i : goal.invariant-loop-i
invariant-loop-i l = Wrote l.n l.initial.bytes (l.n + l.i) l.bytes (replicate l.i l.b)
