-- Loops over the members of a set, word after word and bit after bit: what is done and what is left.
use mathlib.Core.Path.{◌≡◌, refl, sym, ◌∙◌}
use mathlib.Core.Logic.{by_cases}
use mathlib.Core.Bool.{Bool, true, false, cond, not, ◌||◌, ◌&&◌, and-true, and-false, or-false}
use mathlib.Core.List.{List, [], ◌∷◌}
use Prim.Native.Nat.{ℕ, ◌+◌, ◌*◌, ◌/◌, ◌%◌, ◌^◌, ◌-◌, ◌<◌, ◌≤◌}
use native.Mathlib.Decide.{dec_lt, ℕ_discrete}
use native.Mathlib.Omega.{arith}
use lib.Bits.{bit_and, bit_or}
use lib.ListN.{length, get_or, set, length-set}
use lib.Seq.{get_or-set_same, get_or-set_other}
use lib.Dec.{eqb, leb}
use borrow.Author.Tests.{eq-eqb, ne_eqb, le-leb, lt-leb}
use Rattle.bits.specs.declared.Set.{Set}
use Rattle.bits.specs.Sets.{word_bits, set_words, bit, empty_set, member, has}
use Rattle.bits.specs.Words.{Lowest}
use Rattle.bits.proofs.Bits.{bit_zero}
use Rattle.bits.proofs.Members.{word_at, member_out, no_member, same-bit, put_in}

-- ---- what is left of a set

-- the members in word i and after it
pub later : Set → ℕ → ℕ → Bool
later s i x = leb (word_bits * i) x && member s x

-- those of the bits w in word i, and the members after it
pub left : Set → ℕ → ℕ → ℕ → Bool
left s i w x = cond (eqb (x / word_bits) i) (bit w (x % word_bits)) (later s (i + 1) x)

pub later_all : (s : Set) (x : ℕ) → later s 0 x ≡ member s x
unfolding later
later_all s x = rw (le-leb (word_bits * 0) x (omega arith)) refl

pub later_none : (s : Set) (i x : ℕ) → set_words ≤ i → later s i x ≡ false
unfolding later
later_none s i x l =
    by_cases (dec_lt x (word_bits * i))
    (λ (h : x < word_bits * i). rw (lt-leb (word_bits * i) x h) refl)
    (λ (h : ¬ (x < word_bits * i)). rw (member_out s x (omega arith)) (and-false (leb (word_bits * i) x)))

pub word_begun : (s : Set) (i : ℕ) → i < set_words → (x : ℕ) → left s i (get_or s.words i 0) x ≡ later s i x
unfolding left later
word_begun s i l x =
    by_cases (ℕ_discrete (x / word_bits) i)
    (λ (e : x / word_bits ≡ i). rw (eq-eqb (x / word_bits) i e, word_at s i x l e, le-leb (word_bits * i) x (omega arith)) refl)
    (λ (n : ¬ (x / word_bits ≡ i)).
    by_cases (dec_lt x (word_bits * i))
    (λ (h : x < word_bits * i). rw (ne_eqb (x / word_bits) i n, lt-leb (word_bits * i) x h, lt-leb (word_bits * (i + 1)) x (omega arith)) refl)
    (λ (h : ¬ (x < word_bits * i)). rw (ne_eqb (x / word_bits) i n, le-leb (word_bits * i) x (omega arith), le-leb (word_bits * (i + 1)) x (omega arith)) refl))

pub word_done : (s : Set) (i x : ℕ) → left s i 0 x ≡ later s (i + 1) x
unfolding left later
word_done s i x =
    by_cases (ℕ_discrete (x / word_bits) i)
    (λ (e : x / word_bits ≡ i). rw (eq-eqb (x / word_bits) i e, bit_zero, lt-leb (word_bits * (i + 1)) x (omega arith)) refl)
    (λ (n : ¬ (x / word_bits ≡ i)). rw (ne_eqb (x / word_bits) i n) refl)

-- from the test f to the test g, q was taken out
pub record Taken (f : ℕ → Bool) (q : ℕ) (g : ℕ → Bool) : Type 0 where
  pub was : f q ≡ true
  pub rest : (x : ℕ) → g x ≡ (f x && not (eqb x q))

pub bit_taken : (s : Set) (i m b : ℕ) → Lowest word_bits m b → Taken (left s i m) (word_bits * i + b) (left s i (bit_and m (m - 1)))
unfolding left
bit_taken s i m b v = record { was = was; rest = rest }
  where
    was : left s i m (word_bits * i + b) ≡ true
    was =
        let e : (word_bits * i + b) / word_bits ≡ i = omega (arith, v.within) in
        let n : (word_bits * i + b) % word_bits ≡ b = omega (arith, v.within) in
        rw (eq-eqb ((word_bits * i + b) / word_bits) i e, n) v.set

    rest : (x : ℕ) → left s i (bit_and m (m - 1)) x ≡ (left s i m x && not (eqb x (word_bits * i + b)))
    rest x =
        by_cases (ℕ_discrete (x / word_bits) i)
        (λ (e : x / word_bits ≡ i). rw (eq-eqb (x / word_bits) i e, v.without (x % word_bits), same-bit x i b v.within e) refl)
        (λ (n : ¬ (x / word_bits ≡ i)). rw (ne_eqb (x / word_bits) i n, ne_eqb x (word_bits * i + b) (λ z. n (omega (arith, v.within))), and-true) refl)

-- ---- a set into the set of each member: f is what is left

pub record Linking (before : List Set) (from to : Set) (f : ℕ → Bool) (now : List Set) : Type 0 where
  pub same : (p x : ℕ) → (has now p x || f p && member to x) ≡ (has before p x || member from p && member to x)

pub link_start : (table : List Set) (from to : Set) → Linking table from to (later from 0) table
link_start table from to = record { same = λ p x. rw (later_all from p) refl }

module _ {before now : List Set} {from to : Set} {f : ℕ → Bool} (l : Linking before from to f now) where
  pub link_same : {g : ℕ → Bool} → ((p : ℕ) → f p ≡ g p) → Linking before from to g now
  link_same h = record { same = λ p x. rw (← h p) (l.same p x) }

  pub link_turn : {g : ℕ → Bool} (u : Set) (q : ℕ) → Taken f q g → q < length now → ((x : ℕ) → member u x ≡ (member (get_or now q empty_set) x || member to x))
      → Linking before from to g (set now q u)
  unfolding has
  link_turn {g} u q v b h = record { same = λ p x. turn p x ∙ l.same p x }
    where
      turn : (p x : ℕ) → (has (set now q u) p x || g p && member to x) ≡ (has now p x || f p && member to x)
      turn p x =
          by_cases (ℕ_discrete p q)
          (λ (e : p ≡ q). rw (e, get_or-set_same now q u empty_set b, h x, v.rest q, v.was, eq-eqb q q refl)
          (or-false (member (get_or now q empty_set) x || member to x)))
          (λ (n : ¬ (p ≡ q)). rw (get_or-set_other now q p u empty_set n, v.rest p, ne_eqb p q n, and-true) refl)

  pub link_end : ((p : ℕ) → f p ≡ false) → (p x : ℕ) → has now p x ≡ (has before p x || member from p && member to x)
  link_end h p x = sym (or-false (has now p x)) ∙ rw (h p) at (l.same p x)

-- ---- the members that pass a test t: f is what is left

pub record Sifting (from : Set) (t f : ℕ → Bool) (words : List ℕ) : Type 0 where
  pub sized : length words ≡ set_words
  pub same : (x : ℕ) → (member record { words = words } x || f x && t x) ≡ (member from x && t x)

pub sift_start : (from : Set) (t : ℕ → Bool) → Sifting from t (later from 0) (0 ∷ 0 ∷ [])
sift_start from t = record { sized = refl; same = λ x. rw (no_member x, later_all from x) refl }

module _ {from : Set} {t f : ℕ → Bool} {words : List ℕ} (l : Sifting from t f words) where
  pub sift_same : {g : ℕ → Bool} → ((x : ℕ) → f x ≡ g x) → Sifting from t g words
  sift_same h = record { sized = l.sized; same = λ x. rw (← h x) (l.same x) }

  pub kept_in : {g : ℕ → Bool} (i b : ℕ) → Taken f (word_bits * i + b) g → i < set_words → b < word_bits → t (word_bits * i + b) ≡ true
      → Sifting from t g (set words i (bit_or (get_or words i 0) (1 * 2 ^ b % 2 ^ word_bits)))
  kept_in {g} i b v li lb e = record { sized = length-set words i _ ∙ l.sized; same = λ x. turn x ∙ l.same x }
    where
      turn : (x : ℕ)
          → (member record { words = set words i (bit_or (get_or words i 0) (1 * 2 ^ b % 2 ^ word_bits)) } x || g x && t x) ≡ (member record { words = words } x || f x && t x)
      turn x =
          rw (put_in record { words = words } i b li lb l.sized x, v.rest x) (
          by_cases (ℕ_discrete x (word_bits * i + b))
          (λ (d : x ≡ word_bits * i + b). rw (d, eq-eqb (word_bits * i + b) (word_bits * i + b) refl, v.was, e)
          (or-false (member record { words = words } (word_bits * i + b) || true)))
          (λ (n : ¬ (x ≡ word_bits * i + b)). rw (ne_eqb x (word_bits * i + b) n, and-true, or-false) refl))

  pub kept_out : {g : ℕ → Bool} (q : ℕ) → Taken f q g → t q ≡ false → Sifting from t g words
  kept_out {g} q v e = record { sized = l.sized; same = λ x. turn x ∙ l.same x }
    where
      turn : (x : ℕ) → (member record { words = words } x || g x && t x) ≡ (member record { words = words } x || f x && t x)
      turn x =
          by_cases (ℕ_discrete x q)
          (λ (d : x ≡ q). rw (d, e, and-false (g q), and-false (f q)) refl)
          (λ (n : ¬ (x ≡ q)). rw (v.rest x, ne_eqb x q n, and-true) refl)

  pub sift_end : ((x : ℕ) → f x ≡ false) → (x : ℕ) → member record { words = words } x ≡ (member from x && t x)
  sift_end h x = sym (or-false (member record { words = words } x)) ∙ rw (h x) at (l.same x)
