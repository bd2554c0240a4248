-- What the steps over single words promise: the lowest bit of a word, and a word among the bytes of a row.
use Rattle.std.specs.Prelude.{◌≡◌, true, false, not, ◌&&◌, List, ℕ, ◌+◌, ◌-◌, ◌/◌, ◌%◌, ◌≤◌, ◌<◌, get_or, eqb, bit_and}
use Rattle.bits.specs.Sets.{word_bits, word_bytes, byte_bits, bit}

-- i is the lowest bit of m, which has d bits; m & (m - 1) is m without it
pub record Lowest (d m i : ℕ) : Type 0 where
  pub within : i < d
  pub set : bit m i ≡ true
  pub least : (j : ℕ) → j < i → bit m j ≡ false
  pub without : (j : ℕ) → bit (bit_and m (m - 1)) j ≡ (bit m j && not (eqb j i))

-- from the word m to the word n, its lowest bit i was taken out
pub record LowestTaken (m i n : ℕ) : Type 0 where
  pub lowest : Lowest word_bits m i
  pub left : n ≡ bit_and m (m - 1)

-- from the bytes xs to the bytes ys, the word x was written at `at`, its lowest byte first, and nothing else changed
pub record WordAt (xs ys : List ℕ) (at x : ℕ) : Type 0 where
  pub word : (b : ℕ) → b < word_bits → bit (get_or ys (at + b / byte_bits) 0) (b % byte_bits) ≡ bit x b
  pub before : (i : ℕ) → i < at → get_or ys i 0 ≡ get_or xs i 0
  pub after : (i : ℕ) → at + word_bytes ≤ i → get_or ys i 0 ≡ get_or xs i 0
