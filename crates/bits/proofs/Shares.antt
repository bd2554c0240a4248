-- Whether two sets share a member.
use mathlib.Core.Path.{◌≡◌, refl, sym, ◌∙◌}
use mathlib.Core.Logic.{by_cases}
use mathlib.Core.Bool.{Bool, true, false, true≢false, ◌||◌, ◌&&◌, or-true}
use Prim.Native.Nat.{ℕ, zero, suc, ◌+◌, ◌*◌, ◌/◌, ◌%◌, ◌^◌, ◌<◌}
use native.Mathlib.Decide.{dec_lt, ℕ_discrete}
use native.Mathlib.Omega.{arith}
use lib.Bits.{bit_and}
use lib.ListN.{get_or}
use Rattle.rules.proofs.Truth.{and_true_left, and_true_right}
use Rattle.bits.specs.declared.Set.{Set}
use Rattle.bits.specs.Sets.{word_bits, set_words, set_bits, bit, member, some_below, share}
use Rattle.bits.proofs.Bits.{bit_zero, bit_and_lem, no-bit, some_bit}
use Rattle.bits.proofs.Members.{word_at, member_below}

-- ---- some number below n passes the test

pub some_in : (f : ℕ → Bool) (n q : ℕ) → q < n → f q ≡ true → some_below f n ≡ true
unfolding some_below
some_in f zero q h e = absurd (omega arith)
some_in f (suc n) q h e =
    by_cases (ℕ_discrete q n)
    (λ (d : q ≡ n). rw (← d, e) refl)
    (λ (d : ¬ (q ≡ n)). rw (some_in f n q (omega arith) e) (or-true (f n)))

record Witness (f : ℕ → Bool) (n : ℕ) : Type 0 where
  at : ℕ
  below : at < n
  passes : f at ≡ true

some_out : (f : ℕ → Bool) (n : ℕ) → some_below f n ≡ true → Witness f n
unfolding some_below
some_out f zero e = absurd (true≢false (sym e))
some_out f (suc n) e = go (some_out f n) (f n) refl e
  where
    go : (some_below f n ≡ true → Witness f n) → (t : Bool) → f n ≡ t → (t || some_below f n) ≡ true → Witness f (suc n)
    go ih true d z = record { at = n; below = omega arith; passes = d }
    go ih false d z = let w = ih z in record { at = w.at; below = omega (arith, w.below); passes = w.passes }

-- ---- members in common

pub share_in : (s t : Set) (q : ℕ) → member s q ≡ true → member t q ≡ true → share s t ≡ true
unfolding share
share_in s t q a b = some_in (λ q. member s q && member t q) set_bits q (member_below s q a) (rw (a, b) refl)

pub share_out : (s t : Set) → share s t ≡ true → (q : ℕ) × ((member s q ≡ true) × (member t q ≡ true))
unfolding share
share_out s t e = let w = some_out (λ q. member s q && member t q) set_bits e in (w.at, (and_true_left (member s w.at) (member t w.at) w.passes, and_true_right (member s w.at) (member t w.at) w.passes))

-- ---- word by word

pub meet-here : (s t : Set) (i : ℕ) → i < set_words → get_or s.words i 0 < 2 ^ word_bits → (bit_and (get_or s.words i 0) (get_or t.words i 0) ≡ 0 → ⊥) → true ≡ share s t
meet-here s t i l f n = go (some_bit (bit_and (get_or s.words i 0) (get_or t.words i 0)) n)
  where
    go : (b : ℕ) × (bit (bit_and (get_or s.words i 0) (get_or t.words i 0)) b ≡ true) → true ≡ share s t
    go (b, e) =
        let both = sym (bit_and_lem (get_or s.words i 0) (get_or t.words i 0) b) ∙ e in
        let left = and_true_left (bit (get_or s.words i 0) b) (bit (get_or t.words i 0) b) both in
        let right = and_true_right (bit (get_or s.words i 0) b) (bit (get_or t.words i 0) b) both in
        by_cases (dec_lt b word_bits)
        (λ (h : b < word_bits).
        let q : ℕ = word_bits * i + b in
        let m : (word_bits * i + b) % word_bits ≡ b = omega arith in
        sym (share_in s t (word_bits * i + b)
        (sym (word_at s i (word_bits * i + b) l (omega arith)) ∙ rw m left)
        (sym (word_at t i (word_bits * i + b) l (omega arith)) ∙ rw m right)))
        (λ (h : ¬ (b < word_bits)). absurd (true≢false (sym left ∙ no-bit (get_or s.words i 0) b word_bits f (omega arith))))

pub meet-nowhere : (s t : Set) → ((i : ℕ) → i < set_words → bit_and (get_or s.words i 0) (get_or t.words i 0) ≡ 0) → false ≡ share s t
meet-nowhere s t h = go (share s t) refl
  where
    go : (b : Bool) → share s t ≡ b → false ≡ b
    go false e = refl
    go true e =
        let w = share_out s t e in
        let l : w.0 < set_bits = member_below s w.0 w.1.0 in
        let i : ℕ = w.0 / word_bits in
        let both = bit_and_lem (get_or s.words (w.0 / word_bits) 0) (get_or t.words (w.0 / word_bits) 0) (w.0 % word_bits) in
        absurd (true≢false
        (sym (both ∙ rw (word_at s (w.0 / word_bits) w.0 (omega arith) refl, word_at t (w.0 / word_bits) w.0 (omega arith) refl, w.1.0, w.1.1) refl)
        ∙ rw (h (w.0 / word_bits) (omega arith)) (bit_zero (w.0 % word_bits))))

pub ruleset meeting = (meet-here, meet-nowhere)
