use mathlib.Core.Path.{◌≡◌}
use Prim.Native.Nat.{ℕ, ◌<◌}
use lib.ListN.{length, get_or}
use Rattle.bits.specs.Sets.{set_words}
use Rattle.bits.proofs.Bytes.{Loaded}
use Rattle.bits.proofs.Set.load.Given as goal

abbrev pub invariant-loop-i : goal.invariant-loop-i
invariant-loop-i l =
    (length l.words ≡ set_words) × ((k : ℕ) → k < l.i → Loaded l.row k (get_or l.words k 0))
