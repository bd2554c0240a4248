use mathlib.Core.Path.{◌≡◌}
use Prim.Native.Nat.{ℕ, ◌<◌}
use lib.Bits.{bit_and}
use lib.ListN.{get_or}
use Rattle.bits.proofs.Set.meets.Given as goal

abbrev pub invariant-loop-i : goal.invariant-loop-i
invariant-loop-i l =
    (k : ℕ) → k < l.i → bit_and (get_or l.self.words k 0) (get_or l.other.words k 0) ≡ 0
