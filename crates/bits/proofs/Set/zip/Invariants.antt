use mathlib.Core.Path.{◌≡◌}
use Prim.Native.Nat.{ℕ, ◌<◌}
use lib.ListN.{length, get_or}
use Rattle.bits.specs.Sets.{set_words}
use Rattle.bits.proofs.Set.zip.Given as goal

abbrev pub invariant-loop-i : goal.invariant-loop-i
invariant-loop-i g l =
    (length l.words ≡ set_words) × ((k : ℕ) → k < l.i → goal.F-post g l.op (get_or l.self.words k 0) (get_or l.other.words k 0) (get_or l.words k 0))
