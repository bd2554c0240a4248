-- A set by its words: what a store to a word does to the members, and the members of a union and of an intersection.
use mathlib.Core.Path.{◌≡◌, refl, ap, sym, ◌∙◌}
use mathlib.Core.Logic.{by_cases}
use mathlib.Core.Bool.{Bool, true, false, cond, not, ◌||◌, ◌&&◌, and-true, and-false, or-false}
use mathlib.Core.List.{[], ◌∷◌}
use Prim.Native.Nat.{ℕ, zero, suc, ◌+◌, ◌*◌, ◌/◌, ◌%◌, ◌^◌, ◌-◌, ◌<◌, ◌≤◌}
use native.Mathlib.Decide.{dec_lt, ℕ_discrete}
use native.Mathlib.Nat.{one-mul}
use native.Mathlib.Omega.{arith}
use lib.Bits.{bit_or, bit_and}
use lib.Pow.{shl_exact}
use lib.ListN.{length, get_or, set}
use lib.Seq.{get_or-set_same, get_or-set_other}
use lib.Dec.{eqb, leb, ltb}
use borrow.Author.Tests.{eq-eqb, ne_eqb, le-leb, lt-ltb, le-ltb, ltb-true}
use Rattle.rules.proofs.Truth.{and_true_left}
use Rattle.bits.specs.declared.Set.{Set}
use Rattle.bits.specs.Sets.{word_bits, set_words, set_bits, bit, empty_set, member}
use Rattle.bits.proofs.Bits.{bit-or, bit_and_lem, bit_zero, bit_pow, bit_test, bit_even_mask, bit_shr, bit_shl, no-bit}

-- ---- a set by its words

pub member_in : (s : Set) (x : ℕ) → x < set_bits → member s x ≡ bit (get_or s.words (x / word_bits) 0) (x % word_bits)
unfolding member
member_in s x h = rw (lt-ltb x set_bits h) refl

pub member_out : (s : Set) (x : ℕ) → set_bits ≤ x → member s x ≡ false
unfolding member
member_out s x h = rw (le-ltb x set_bits h) refl

-- bit x % 64 of word i is the member x of word i
pub word_at : (s : Set) (i x : ℕ) → i < set_words → x / word_bits ≡ i → bit (get_or s.words i 0) (x % word_bits) ≡ member s x
word_at s i x h e = sym (member_in s x (omega arith) ∙ rw e refl)

pub member_below : (s : Set) (x : ℕ) → member s x ≡ true → x < set_bits
unfolding member
member_below s x e = ltb-true x set_bits (and_true_left (ltb x set_bits) _ e)

-- the code's test of a member
pub tested : (s : Set) (q : ℕ) → q < set_bits → eqb (bit_and (get_or s.words (q / word_bits) 0 / 2 ^ (q % word_bits)) 1) 1 ≡ member s q
tested s q h = bit_test (get_or s.words (q / word_bits) 0) (q % word_bits) ∙ sym (member_in s q h)

-- what holds of each bit of each word holds of each member
pub by_words : (s : Set) (f : ℕ → Bool) → ((x : ℕ) → set_bits ≤ x → f x ≡ false)
    → ((i x : ℕ) → i < set_words → x / word_bits ≡ i → bit (get_or s.words i 0) (x % word_bits) ≡ f x) → (x : ℕ) → member s x ≡ f x
by_words s f out h x =
    by_cases (dec_lt x set_bits)
    (λ (b : x < set_bits). member_in s x b ∙ h (x / word_bits) x (omega arith) refl)
    (λ (b : ¬ (x < set_bits)). member_out s x (omega arith) ∙ sym (out x (omega arith)))

-- ---- the empty set

zero_at : (i : ℕ) → get_or {A = ℕ} (0 ∷ 0 ∷ []) i 0 ≡ 0
zero_at zero = refl
zero_at (suc zero) = refl
zero_at (suc (suc i)) = refl

pub no_member : (x : ℕ) → member record { words = 0 ∷ 0 ∷ [] } x ≡ false
no_member x = by_words record { words = 0 ∷ 0 ∷ [] } (λ x. false) (λ x h. refl) (λ i x h e. rw (zero_at i) (bit_zero (x % word_bits))) x

pub none_empty : (x : ℕ) → member empty_set x ≡ false
none_empty = by_words empty_set (λ x. false) (λ x h. refl) (λ i x h e. bit_zero (x % word_bits))

-- ---- a store

module _ (s : Set) (i v : ℕ) (l : i < set_words) (h : i < length s.words) where
  abbrev after : Set
  after = record { words = set s.words i v }

  -- word i is v now
  pub stored : (x : ℕ) → member after x ≡ cond (eqb (x / word_bits) i) (bit v (x % word_bits)) (member s x)
  stored = by_words after (λ x. cond (eqb (x / word_bits) i) (bit v (x % word_bits)) (member s x)) out here
    where
      out : (x : ℕ) → set_bits ≤ x → cond (eqb (x / word_bits) i) (bit v (x % word_bits)) (member s x) ≡ false
      out x b = rw (ne_eqb (x / word_bits) i (λ z. omega arith)) (member_out s x b)

      here : (j x : ℕ) → j < set_words → x / word_bits ≡ j → bit (get_or (set s.words i v) j 0) (x % word_bits) ≡ cond (eqb (x / word_bits) i) (bit v (x % word_bits)) (member s x)
      here j x k e =
          by_cases (ℕ_discrete j i)
          (λ (d : j ≡ i). rw (eq-eqb (x / word_bits) i (e ∙ d), d, get_or-set_same s.words i v 0 h) refl)
          (λ (d : ¬ (j ≡ i)). rw (ne_eqb (x / word_bits) i (λ z. d (sym e ∙ z)), get_or-set_other s.words i j v 0 d) (word_at s j x k e))

-- ---- one member in, and the start out

-- bit b of word i is the member 64 i + b
pub same-bit : (x i b : ℕ) → b < word_bits → x / word_bits ≡ i → eqb (x % word_bits) b ≡ eqb x (word_bits * i + b)
same-bit x i b l e =
    by_cases (ℕ_discrete (x % word_bits) b)
    (λ (d : x % word_bits ≡ b). rw (eq-eqb (x % word_bits) b d) (sym (eq-eqb x (word_bits * i + b) (omega arith))))
    (λ (d : ¬ (x % word_bits ≡ b)). rw (ne_eqb (x % word_bits) b d) (sym (ne_eqb x (word_bits * i + b) (λ z. d (omega arith)))))

one_shifted : (b : ℕ) → b < word_bits → 1 * 2 ^ b % 2 ^ word_bits ≡ 2 ^ b
one_shifted b h = shl_exact {a = 1} 1 b word_bits (omega arith) (omega arith) ∙ one-mul (2 ^ b)

-- bit b of word i goes in
pub put_in : (s : Set) (i b : ℕ) → i < set_words → b < word_bits → length s.words ≡ set_words → (x : ℕ)
    → member record { words = set s.words i (bit_or (get_or s.words i 0) (1 * 2 ^ b % 2 ^ word_bits)) } x ≡ (member s x || eqb x (word_bits * i + b))
put_in s i b l k h x =
    stored s i _ l (omega arith) x ∙ rw (one_shifted b k) (
    by_cases (ℕ_discrete (x / word_bits) i)
    (λ (d : x / word_bits ≡ i). rw (eq-eqb (x / word_bits) i d, bit-or, bit_pow, word_at s i x l d, same-bit x i b k d) refl)
    (λ (d : ¬ (x / word_bits ≡ i)). rw (ne_eqb (x / word_bits) i d, ne_eqb x (word_bits * i + b) (λ z. d (omega arith)), or-false) refl))

pub inserted : (s : Set) (q : ℕ) → q < set_bits → length s.words ≡ set_words → (x : ℕ)
    → member record { words = set s.words (q / word_bits) (bit_or (get_or s.words (q / word_bits) 0) (1 * 2 ^ (q % word_bits) % 2 ^ word_bits)) } x ≡ (member s x || eqb x q)
inserted s q l h x = let e : word_bits * (q / word_bits) + q % word_bits ≡ q = omega arith in rw e at (put_in s (q / word_bits) (q % word_bits) (omega arith) (omega arith) h x)

-- only word q / 64 has a bit
abbrev pub Alone : ℕ → ℕ → ℕ → Type 0
Alone q i w = w ≡ cond (eqb i (q / word_bits)) (1 * 2 ^ (q % word_bits) % 2 ^ word_bits) 0

pub alone : (s : Set) (q : ℕ) → q < set_bits → ((i : ℕ) → i < set_words → Alone q i (get_or s.words i 0)) → (x : ℕ) → member s x ≡ eqb x q
alone s q l h = by_words s (λ x. eqb x q) (λ x b. ne_eqb x q (λ z. omega arith)) go
  where
    go : (i x : ℕ) → i < set_words → x / word_bits ≡ i → bit (get_or s.words i 0) (x % word_bits) ≡ eqb x q
    go i x b e =
        let n : word_bits * (q / word_bits) + q % word_bits ≡ q = omega arith in
        rw (h i b) (
        by_cases (ℕ_discrete i (q / word_bits))
        (λ (d : i ≡ q / word_bits). rw (eq-eqb i (q / word_bits) d, one_shifted (q % word_bits) (omega arith), bit_pow)
        (rw n at (same-bit x (q / word_bits) (q % word_bits) (omega arith) (e ∙ d))))
        (λ (d : ¬ (i ≡ q / word_bits)). rw (ne_eqb i (q / word_bits) d, bit_zero) (sym (ne_eqb x q (λ z. d (sym e ∙ ap (λ (m : ℕ). m / word_bits) z))))))

pub start_dropped : (s : Set) → length s.words ≡ set_words → (x : ℕ)
    → member record { words = set s.words 0 (bit_and (get_or s.words 0 0) 18446744073709551614) } x ≡ (member s x && not (eqb x 0))
start_dropped s h x =
    stored s 0 _ (omega arith) (omega arith) x ∙
    by_cases (ℕ_discrete (x / word_bits) 0)
    (λ (d : x / word_bits ≡ 0).
    rw (eq-eqb (x / word_bits) 0 d, bit_and_lem, word_at s 0 x (omega arith) d, bit_even_mask (x % word_bits) (omega arith))
    (ap (λ (t : Bool). member s x && not t) (same-bit x 0 0 (omega arith) d)))
    (λ (d : ¬ (x / word_bits ≡ 0)). rw (ne_eqb (x / word_bits) 0 d, ne_eqb x 0 (λ z. omega arith), and-true) refl)

-- ---- two sets, word by word

module _ (s t r : Set) where
  pub united : ((i : ℕ) → i < set_words → get_or r.words i 0 ≡ bit_or (get_or s.words i 0) (get_or t.words i 0)) → (x : ℕ) → member r x ≡ (member s x || member t x)
  united h =
      by_words r (λ x. member s x || member t x)
      (λ x l. rw (member_out s x l) (member_out t x l))
      (λ i x l e. rw (h i l, bit-or, word_at s i x l e, word_at t i x l e) refl)

  pub shared : ((i : ℕ) → i < set_words → get_or r.words i 0 ≡ bit_and (get_or s.words i 0) (get_or t.words i 0)) → (x : ℕ) → member r x ≡ (member s x && member t x)
  shared h =
      by_words r (λ x. member s x && member t x)
      (λ x l. rw (member_out s x l) refl)
      (λ i x l e. rw (h i l, bit_and_lem, word_at s i x l e, word_at t i x l e) refl)

-- ---- each member one on

-- the bit that goes from one word into word i
abbrev pub carried : Set → ℕ → ℕ
carried s i = cond (eqb i 0) 0 (get_or s.words (i - 1) 0 / 2 ^ 63)

-- w is word i of s, moved up by a bit
abbrev pub Moved : Set → ℕ → ℕ → Type 0
Moved s i w = (get_or s.words i 0 < 2 ^ word_bits) × (w ≡ bit_or (get_or s.words i 0 * 2 ^ 1 % 2 ^ word_bits) (carried s i))

pub carried_start : (s : Set) → 0 ≡ carried s 0
carried_start s = refl

pub carried_turn : (s : Set) (i : ℕ) → get_or s.words i 0 / 2 ^ 63 ≡ carried s (i + 1)
carried_turn s i = let e : i + 1 - 1 ≡ i = omega arith in rw (ne_eqb (i + 1) 0 (λ z. omega arith), e) refl

pub moved_end : (s r : Set) → ((i : ℕ) → i < set_words → Moved s i (get_or r.words i 0)) → (x : ℕ)
    → member r x ≡ (leb 1 x && ltb x set_bits && member s (x - 1))
moved_end s r h = by_words r (λ x. leb 1 x && ltb x set_bits && member s (x - 1)) (λ x b. rw (le-ltb x set_bits b, and-false) refl) go
  where
    none : (i b : ℕ) → i < set_words → 1 ≤ b → bit (carried s i) b ≡ false
    none i b k l =
        by_cases (ℕ_discrete i 0)
        (λ (d : i ≡ 0). rw d (bit_zero b))
        (λ (d : ¬ (i ≡ 0)). rw (ne_eqb i 0 d, bit_shr) (no-bit (get_or s.words (i - 1) 0) (63 + b) word_bits (h (i - 1) (omega arith)).0 (omega arith)))

    word : (i x : ℕ) → i < set_words → x / word_bits ≡ i → (leb 1 (x % word_bits) && bit (get_or s.words i 0) (x % word_bits - 1) || bit (carried s i) (x % word_bits)) ≡ (leb 1 x && member s (x - 1))
    word i x b e =
        by_cases (ℕ_discrete (x % word_bits) 0)
        (λ (z : x % word_bits ≡ 0).
        by_cases (ℕ_discrete i 0)
        (λ (d : i ≡ 0). let n : x ≡ 0 = omega arith in rw (d, n) (bit_zero 0))
        (λ (d : ¬ (i ≡ 0)).
        let m : (x - 1) % word_bits ≡ 63 = omega arith in
        rw (z, ne_eqb i 0 d, le-leb 1 x (omega arith), bit_shr) (rw m at (word_at s (i - 1) (x - 1) (omega arith) (omega arith)))))
        (λ (z : ¬ (x % word_bits ≡ 0)).
        let m : (x - 1) % word_bits ≡ x % word_bits - 1 = omega arith in
        rw (le-leb 1 (x % word_bits) (omega arith), le-leb 1 x (omega arith), none i (x % word_bits) b (omega arith), or-false) (rw m at (word_at s i (x - 1) b (omega arith))))

    go : (i x : ℕ) → i < set_words → x / word_bits ≡ i → bit (get_or r.words i 0) (x % word_bits) ≡ (leb 1 x && ltb x set_bits && member s (x - 1))
    go i x b e =
        rw ((h i b).1, bit-or, bit_shl (get_or s.words i 0) 1 word_bits (x % word_bits) (omega arith), lt-ltb x set_bits (omega arith), and-true) (word i x b e)

pub ruleset moving = (carried_start, carried_turn, moved_end)
