use mathlib.Core.Path.{◌≡◌}
use Prim.Native.Nat.{ℕ, ◌<◌}
use lib.ListN.{length, get_or}
use Rattle.bits.specs.Sets.{set_words}
use Rattle.bits.proofs.Members.{carried, Moved}
use Rattle.bits.proofs.Set.moved.Given as goal

abbrev pub invariant-loop-i : goal.invariant-loop-i
invariant-loop-i l =
    (length l.words ≡ set_words) × (l.carry ≡ carried l.self l.i) × ((k : ℕ) → k < l.i → Moved l.self k (get_or l.words k 0))
