use Prim.Native.Nat.{ℕ, ◌-◌}
use Rattle.sheet.specs.Make.{postorder}
use Rattle.buffers.specs.Wrote.{Wrote}
use Rattle.repeats.proofs.Copies.{joined}
use Rattle.repeats.proofs.repeat_in.Given as goal

-- After i copies their nodes are stored; after y of them they are those of the tree.
abbrev pub invariant-loop-i : goal.invariant-loop-i
invariant-loop-i l = (b : ℕ) → Wrote l.n l.fn.nodes l.m l.nodes (postorder (joined b l.x (l.i - 1)))
