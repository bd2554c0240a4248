-- Sets of positions as bits: in machine words for tables and local sets, in bytes for a row of the work area. Position 0 is the start.
use Rattle.std.specs.Prelude.{◌≡◌, Bool, true, false, cond, ◌||◌, ◌&&◌, List, [], MatchOption, Option, ℕ, zero, suc, ◌+◌, ◌*◌, ◌/◌, ◌%◌, ◌^◌, ◌≤◌, ◌<◌, get_or, eqb, ltb}
use Rattle.bits.specs.declared.Set.{Set}

abbrev pub word_bits : ℕ
word_bits = 64

abbrev pub word_bytes : ℕ
word_bytes = 8

abbrev pub byte_bits : ℕ
byte_bits = 8

-- how many words a set has
abbrev pub set_words : ℕ
set_words = 2

-- a set's members are below this
abbrev pub set_bits : ℕ
set_bits = word_bits * set_words

-- how many bytes of a row a set takes
abbrev pub set_bytes : ℕ
set_bytes = word_bytes * set_words

-- bit b of the number x
unfoldable pub bit : ℕ → ℕ → Bool
bit x b = eqb (x / 2 ^ b % 2) 1

-- q is in the set: bit q % 64 of its word q / 64
unfoldable pub member : Set → ℕ → Bool
member s q = ltb q set_bits && bit (get_or s.words (q / word_bits) 0) (q % word_bits)

-- the set with no member, which stands for a set past the end of a table
abbrev pub empty_set : Set
empty_set = record { words = [] }

-- q is in set k of a table
unfoldable pub has : List Set → ℕ → ℕ → Bool
has xs k q = member (get_or xs k empty_set) q

-- q is in the set that the front of a row holds: bit q % 8 of byte q / 8
unfoldable pub row_has : List ℕ → ℕ → Bool
row_has row q = ltb q set_bits && bit (get_or row (q / byte_bits) 0) (q % byte_bits)

-- none of the sets has a member
abbrev pub Empty : List Set → Type 0
Empty xs = (k q : ℕ) → has xs k q ≡ false

-- some number below n passes the test
unfoldable pub some_below : (ℕ → Bool) → ℕ → Bool
some_below f zero = false
some_below f (suc n) = f n || some_below f n

-- how many numbers below n pass the test
unfoldable pub count_below : (ℕ → Bool) → ℕ → ℕ
count_below f zero = 0
count_below f (suc n) = cond (f n) 1 0 + count_below f n

-- the two sets share a member
unfoldable pub share : Set → Set → Bool
share s t = some_below (λ q. member s q && member t q) set_bits

-- how many members the set has
unfoldable pub size_of : Set → ℕ
size_of s = count_below (member s) set_bits

-- q is the least number from `bound` on that passes the test
pub record LeastAt (f : ℕ → Bool) (bound q : ℕ) : Type 0 where
  pub above : bound ≤ q
  pub passes : f q ≡ true
  pub least : (x : ℕ) → bound ≤ x → x < q → f x ≡ false

-- the least number from `bound` on that passes the test, if one does
abbrev pub LeastFrom : (ℕ → Bool) → ℕ → Option ℕ → Type 0
LeastFrom f bound found = MatchOption found ((x : ℕ) → bound ≤ x → f x ≡ false) (LeastAt f bound)
