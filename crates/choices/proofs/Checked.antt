-- Following a sequence step by step is the test of a reading.
use mathlib.Core.Path.{◌≡◌, refl, sym, ◌∙◌}
use mathlib.Core.Bool.{Bool, true, false, ◌&&◌, and-false}
use mathlib.Core.List.{List}
use Prim.Native.Nat.{ℕ, ◌+◌, ◌<◌, ◌≤◌}
use native.Mathlib.Numerals.{add-one}
use native.Mathlib.Omega.{arith}
use lib.Dec.{leb}
use lib.ListN.{length, get_or, drop, drop_of_length-le}
use lib.Seq.{drop-cons}
use borrow.Author.Tests.{le-leb}
use Rattle.language.specs.Tree.{size}
use Rattle.language.specs.Reading.{Pattern}
use Rattle.language.specs.Local.{Numbered}
use Rattle.language.specs.Follow.{step, stop}
use Rattle.language.specs.Search.{reads, ok_in, is_reading}
use Rattle.language.proofs.Computed.{bounded}
use Rattle.bits.specs.declared.Set.{Set}
use Rattle.bits.specs.Sets.{set_bits, empty_set, member, has}
use Rattle.bits.proofs.Members.{member_out}
use Rattle.automaton.specs.Tables.{Follows, Stops, Letters, letter_of}
use Rattle.rows.proofs.Live.{T_true}

-- set k of a table, and what is no member of any set
pub table_has : (xs : List Set) (k q : ℕ) → has xs k q ≡ member (get_or xs k empty_set) q
unfolding has
table_has xs k q = refl

pub table_off : (xs : List Set) (k q : ℕ) → set_bits ≤ q → has xs k q ≡ false
unfolding has
table_off xs k q h = member_out (get_or xs k empty_set) q h

-- a test that the others imply may be left out
implied : (s i j t : Bool) → ((s && t) ≡ true → (i ≡ true) × (j ≡ true)) → (s && (i && j && t)) ≡ (s && t)
implied false i j t h = refl
implied true i j true h = let (a, b) = h refl in rw (a, b) refl
implied true i j false h = and-false (i && j)

-- the tables hold the graph of the pattern
ok_is : (P : Pattern) → Numbered 1 (1 + size P.tree) P.tree → (follow letters : List Set) → Follows P follow → Letters P letters → (p b q : ℕ)
    → (has follow p q && has letters (letter_of b) q) ≡ ok_in P p b q
ok_is P n follow letters f l p b q =
    rw (f p q, l b q)
    (implied (step P.tree p q) (leb 1 q) (leb q (size P.tree)) (P.takes q b)
    (λ e. let i = bounded P n p b q (T_true (ok_in P p b q) e) in (le-leb 1 q i.low, le-leb q (size P.tree) (omega (arith, i.high)))))

-- what is left to follow at place i, after p, decides
pub record Followed (P : Pattern) (name w : List ℕ) (i p : ℕ) : Type 0 where
  pub left : is_reading P name w ≡ reads (ok_in P) (stop P.tree) (size P.tree) p (drop i name) (drop i w)

module _ {P : Pattern} {name w : List ℕ} {i p : ℕ} (long : length w ≡ length name) (so_far : Followed P name w i p) where
  module _ (n : Numbered 1 (1 + size P.tree) P.tree) (follow letters : List Set) (f : Follows P follow) (l : Letters P letters) {q : ℕ} {r : Bool}
      (inside : i < length name) (entry : q ≡ get_or w i 0) (test : r ≡ (has follow p q && has letters (letter_of (get_or name i 0)) q)) where
    there : i < length w
    there = omega arith

    ok : {b : Bool} → r ≡ b → ok_in P p (get_or name i 0) q ≡ b
    ok e = sym (ok_is P n follow letters f l p (get_or name i 0) q) ∙ sym test ∙ e

    pub followed_on : r ≡ true → Followed P name w (i + 1) q
    followed_on e =
        record { left = so_far.left ∙ rw (add-one i, drop-cons name i 0 inside, drop-cons w i 0 there, ← entry, ok e) refl }

    pub followed_off : r ≡ false → false ≡ is_reading P name w
    followed_off e = sym (so_far.left ∙ rw (drop-cons name i 0 inside, drop-cons w i 0 there, ← entry, ok e) refl)

  pub followed_end : (stops : Set) {r : Bool} → Stops P stops → length name ≤ i → r ≡ member stops p → r ≡ is_reading P name w
  followed_end stops s h e =
      let all = drop_of_length-le name {i = i} h in
      let none = drop_of_length-le w {i = i} (omega arith) in
      e ∙ s p ∙ sym (so_far.left ∙ rw (all, none) refl)
