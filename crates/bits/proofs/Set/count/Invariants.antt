use mathlib.Core.Path.{◌≡◌}
use Prim.Native.Nat.{◌*◌, ◌≤◌}
use Rattle.bits.specs.Sets.{word_bits, member, count_below}
use Rattle.bits.proofs.Set.count.Given as goal

abbrev pub invariant-loop-word : goal.invariant-loop-word
invariant-loop-word l =
    (l.n ≤ word_bits * l.word-index) × (l.n ≡ count_below (member l.fn.self) (word_bits * l.word-index))
