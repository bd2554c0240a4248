-- The least member of a set from a bound on: word after word, the first whose members from the bound on are not none.
use mathlib.Core.Path.{◌≡◌, refl, sym, ◌∙◌}
use mathlib.Core.Logic.{by_cases}
use mathlib.Core.Bool.{true, false, ◌&&◌}
use Prim.Native.Nat.{ℕ, ◌+◌, ◌*◌, ◌/◌, ◌%◌, ◌^◌, ◌-◌, ◌<◌, ◌≤◌}
use native.Mathlib.Decide.{dec_lt}
use native.Mathlib.Omega.{arith}
use lib.ListN.{get_or}
use lib.Dec.{leb}
use borrow.Author.Tests.{le-leb, lt-leb, leb-true}
use Rattle.rules.proofs.Truth.{and_true_left}
use Rattle.bits.specs.declared.Set.{Set}
use Rattle.bits.specs.Sets.{word_bits, set_words, bit, member, LeastAt}
use Rattle.bits.specs.Words.{Lowest}
use Rattle.bits.proofs.Bits.{bit_zero, bit_shl, bit_shr}
use Rattle.bits.proofs.Members.{word_at, member_out}

-- the word w of the members from 64 i on, with the bits of what stands before the bound shifted out
masked : (w i bound k : ℕ) → bound < word_bits * (i + 1) → k ≡ bound - word_bits * i
    → (b : ℕ) → b < word_bits → bit (w / 2 ^ k * 2 ^ k % 2 ^ word_bits) b ≡ (leb bound (word_bits * i + b) && bit w b)
masked w i bound k u e b h =
    bit_shl (w / 2 ^ k) k word_bits b h ∙
    by_cases (dec_lt (word_bits * i + b) bound)
    (λ (g : word_bits * i + b < bound). rw (lt-leb k b (omega arith), lt-leb bound (word_bits * i + b) g) refl)
    (λ (g : ¬ (word_bits * i + b < bound)).
    let n : k + (b - k) ≡ b = omega arith in
    rw (le-leb k b (omega arith), le-leb bound (word_bits * i + b) (omega arith), bit_shr, n) refl)

module _ (s : Set) (bound : ℕ) where
  -- no member from the bound on stands below word i
  abbrev pub Clear : ℕ → Type 0
  Clear i = (x : ℕ) → bound ≤ x → x < word_bits * i → member s x ≡ false

  module _ (i k : ℕ) (clear : Clear i) (l : i < set_words) (u : bound < word_bits * (i + 1)) (e : k ≡ bound - word_bits * i) where
    abbrev m : ℕ
    m = get_or s.words i 0 / 2 ^ k * 2 ^ k % 2 ^ word_bits

    mask : (b : ℕ) → b < word_bits → bit m b ≡ (leb bound (word_bits * i + b) && bit (get_or s.words i 0) b)
    mask = masked (get_or s.words i 0) i bound k u e

    -- the members of word i from the bound on
    within : (x : ℕ) → bound ≤ x → x / word_bits ≡ i → bit m (x % word_bits) ≡ member s x
    within x h d =
        let n : word_bits * i + x % word_bits ≡ x = omega arith in
        mask (x % word_bits) (omega arith) ∙ rw (n, le-leb bound x h) (word_at s i x l d)

    pub least-next : m ≡ 0 → Clear (i + 1)
    least-next z x h g =
        by_cases (dec_lt x (word_bits * i))
        (λ (a : x < word_bits * i). clear x h a)
        (λ (a : ¬ (x < word_bits * i)). sym (within x h (omega arith)) ∙ rw z (bit_zero (x % word_bits)))

    -- the lowest bit of m
    pub least-found : (t : ℕ) → Lowest word_bits m t → LeastAt (member s) bound (word_bits * i + t)
    least-found t v = record { above = above; passes = passes; least = others }
      where
        both : (leb bound (word_bits * i + t) && bit (get_or s.words i 0) t) ≡ true
        both = sym (mask t v.within) ∙ v.set

        above : bound ≤ word_bits * i + t
        above = leb-true bound (word_bits * i + t) (and_true_left (leb bound (word_bits * i + t)) (bit (get_or s.words i 0) t) both)

        passes : member s (word_bits * i + t) ≡ true
        passes =
            let n : (word_bits * i + t) % word_bits ≡ t = omega (arith, v.within) in
            sym (within (word_bits * i + t) above (omega (arith, v.within))) ∙ rw n v.set

        others : (x : ℕ) → bound ≤ x → x < word_bits * i + t → member s x ≡ false
        others x h g =
            by_cases (dec_lt x (word_bits * i))
            (λ (a : x < word_bits * i). clear x h a)
            (λ (a : ¬ (x < word_bits * i)). sym (within x h (omega (arith, v.within))) ∙ v.least (x % word_bits) (omega (arith, v.within)))

  pub least_nowhere : (i : ℕ) → set_words ≤ i → Clear i → (x : ℕ) → bound ≤ x → member s x ≡ false
  least_nowhere i l clear x h =
      by_cases (dec_lt x (word_bits * i)) (λ (a : x < word_bits * i). clear x h a) (λ (a : ¬ (x < word_bits * i)). member_out s x (omega arith))
