-- The count of a set's members, word after word.
use mathlib.Core.Path.{◌≡◌, refl, ap, sym, ◌∙◌}
use mathlib.Core.Bool.{Bool, cond}
use Prim.Native.Nat.{ℕ, zero, suc, ◌+◌, ◌*◌, ◌/◌, ◌%◌, ◌^◌, ◌<◌}
use native.Mathlib.Omega.{arith}
use lib.Count.{ones, ones_step}
use lib.ListN.{get_or}
use lib.Dec.{eqb}
use Rattle.bits.specs.declared.Set.{Set}
use Rattle.bits.specs.Sets.{word_bits, set_words, bit, member, count_below, size_of}
use Rattle.bits.proofs.Bits.{bit-low, bit_up, half_lt}
use Rattle.bits.proofs.Members.{word_at}

same_count : (f g : ℕ → Bool) (n : ℕ) → ((q : ℕ) → q < n → f q ≡ g q) → count_below f n ≡ count_below g n
unfolding count_below
same_count f g zero h = refl
same_count f g (suc n) h = rw (h n (omega arith), same_count f g n (λ q l. h q (omega arith))) refl

-- the numbers below n, and the d after them
count-after : (f : ℕ → Bool) (n d : ℕ) → count_below f (n + d) ≡ count_below (λ b. f (n + b)) d + count_below f n
unfolding count_below
count-after f n zero = let e : n + 0 ≡ n = omega arith in rw e (omega arith)
count-after f n (suc d) = let e : n + suc d ≡ suc (n + d) = omega arith in rw (e, count-after f n d) (omega arith)

low_count : (m : ℕ) → m % 2 ≡ cond (bit m 0) 1 0
low_count m = go (m % 2) refl ∙ ap (λ (t : Bool). cond t 1 0) (sym (bit-low m))
  where
    go : (r : ℕ) → m % 2 ≡ r → r ≡ cond (eqb r 1) 1 0
    go zero e = refl
    go (suc zero) e = refl
    go (suc (suc r)) e = absurd (omega arith)

-- what the machine's count of ones gives
ones_count : (d m : ℕ) → m < 2 ^ d → ones m ≡ count_below (bit m) d
unfolding count_below ones
ones_count zero m h = let e : m ≡ 0 = omega arith in rw e refl
ones_count (suc d) m h =
    let e : suc d ≡ 1 + d = omega arith in
    let c = count-after (bit m) 1 d in
    let s = same_count (λ b. bit m (1 + b)) (bit (m / 2)) d (λ b l. let z : 1 + b ≡ suc b = omega arith in rw z (bit_up m b)) in
    ones_step m ∙ rw (ones_count d (m / 2) (half_lt d m h)) (omega (arith, c, s, low_count m, ap (count_below (bit m)) e))

pub count_start : (s : Set) → 0 ≡ count_below (member s) (word_bits * 0)
unfolding count_below
count_start s = refl

pub count_turn : (s : Set) (i n : ℕ) → i < set_words → get_or s.words i 0 < 2 ^ word_bits → n ≡ count_below (member s) (word_bits * i)
    → n + ones (get_or s.words i 0) ≡ count_below (member s) (word_bits * (i + 1))
count_turn s i n l f e =
    let w : ℕ = get_or s.words i 0 in
    let d : word_bits * (i + 1) ≡ word_bits * i + word_bits = omega arith in
    let c = count-after (member s) (word_bits * i) word_bits in
    let h = same_count (bit w) (λ b. member s (word_bits * i + b)) word_bits (λ b g. let m : (word_bits * i + b) % word_bits ≡ b = omega arith in rw m at (word_at s i (word_bits * i + b) l (omega arith))) in
    rw (d, c, e, ones_count word_bits w f, h) (omega arith)

pub count_end : (s : Set) (i : ℕ) → i ≡ set_words → count_below (member s) (word_bits * i) ≡ size_of s
unfolding size_of
count_end s i e = rw e refl

pub ruleset counting = (count_start, count_end)
