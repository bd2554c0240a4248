use mathlib.Core.Path.{◌≡◌}
use Prim.Native.Nat.{ℕ, ◌<◌, ◌≤◌}
use lib.ListN.{length, get_or}
use Rattle.bits.specs.Sets.{set_words}
use Rattle.bits.proofs.Members.{Alone}
use Rattle.bits.proofs.Set.of.Given as goal

abbrev pub invariant-loop-i : goal.invariant-loop-i
invariant-loop-i l =
    (length l.words ≡ set_words) × ((k : ℕ) → k < l.i → Alone l.q k (get_or l.words k 0)) × ((k : ℕ) → l.i ≤ k → get_or l.words k 0 ≡ 0)
