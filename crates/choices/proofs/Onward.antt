-- The search for the last entry that can move, a law for each way through a turn.
use mathlib.Core.Path.{◌≡◌, refl, ap, sym, ◌∙◌}
use mathlib.Core.Logic.{by_cases}
use mathlib.Core.Bool.{Bool, true, false, ◌&&◌, and-false}
use mathlib.Core.Option.{Option, none, some}
use mathlib.Core.List.{List, ◌∷◌, ◌++◌, append_assoc}
use Prim.Native.Nat.{ℕ, zero, suc, ◌+◌, ◌-◌, ◌<◌, ◌≤◌}
use native.Mathlib.Decide.{dec_lt, ℕ_discrete}
use native.Mathlib.Numerals.{add-one}
use native.Mathlib.Omega.{arith}
use lib.Dec.{T, lt→ltb}
use lib.ListN.{length, get_or, take, drop, set}
use lib.Seq.{drop-cons, drop-length, take-suc-set}
use Rattle.language.specs.Tree.{size}
use Rattle.language.specs.Reading.{Pattern}
use Rattle.language.specs.Follow.{stop}
use Rattle.language.specs.Search.{pick, next, afresh, ok_in, next_reading}
use Rattle.language.proofs.Places.{next_from, next_here}
use Rattle.bits.specs.declared.Set.{Set}
use Rattle.bits.specs.Sets.{set_bits, has, row_has, LeastAt}
use Rattle.automaton.specs.Tables.{Follows}
use Rattle.rows.specs.Rows.{readable, row_at, RowsOf}
use Rattle.choices.specs.Moves.{chosen, Small}
use Rattle.choices.proofs.Picks.{fine, picked_live, later_pick, later_none}

-- ---- later positions of one place: f is live, g may come next

-- none after w and up to q will do
pub record Tried (f g : ℕ → Bool) (w q : ℕ) : Type 0 where
  pub more : w ≤ q
  pub fails : (x : ℕ) → w < x → x ≤ q → (f x && g x) ≡ false

pub tried_none : {f g : ℕ → Bool} {w : ℕ} → Tried f g w w
tried_none = record { more = omega arith; fails = λ x h k. absurd (omega arith) }

module _ {f g : ℕ → Bool} {w q : ℕ} (old : Tried f g w q) where
  module _ {r : ℕ} (l : LeastAt f (q + 1) r) where
    before : (x : ℕ) → w < x → x < r → (f x && g x) ≡ false
    before x h k = by_cases (dec_lt q x) (λ (d : q < x). rw (l.least x (omega arith) k) refl) (λ (d : ¬ (q < x)). old.fails x h (omega arith))

    -- the next live position does not do either
    pub tried_more : g r ≡ false → Tried f g w r
    tried_more e =
        record {
          more = omega (arith, l.above, old.more);
          fails = λ x h k. by_cases (ℕ_discrete x r) (λ (d : x ≡ r). rw (d, e) (and-false (f r))) (λ (d : ¬ (x ≡ r)). before x h (omega arith));
        }

    -- it does
    pub tried_found : g r ≡ true → LeastAt (λ x. f x && g x) (suc w) r
    tried_found e = record { above = omega (arith, l.above, old.more); passes = rw (l.passes, e) refl; least = λ x h k. before x h k }

  -- there is none
  pub tried_all : ((x : ℕ) → q + 1 ≤ x → f x ≡ false) → (x : ℕ) → suc w ≤ x → (f x && g x) ≡ false
  tried_all n x h = by_cases (dec_lt q x) (λ (d : q < x). rw (n x (omega arith)) refl) (λ (d : ¬ (q < x)). old.fails x h (omega arith))

-- ---- places from the right

-- what moves from place i on
abbrev next_at : Pattern → List ℕ → List ℕ → ℕ → Option (List ℕ)
next_at P name w i = next (ok_in P) (stop P.tree) (size P.tree) (drop i name) (get_or (0 ∷ w) i 0) (drop i w)

-- nothing does
pub record Still (P : Pattern) (name w : List ℕ) (i : ℕ) : Type 0 where
  pub stays : next_at P name w i ≡ none

pub still_start : {P : Pattern} {name w : List ℕ} → Still P name w (length name)
still_start {name = name} = record { stays = rw (drop-length name) refl }

-- x is live at place i, and may come after p
abbrev pub may : List Set → List ℕ → ℕ → ℕ → ℕ → Bool
may follow work i p x = row_has (row_at work i) x && has follow p x

-- it is the turn of place i, after p
module _ {P : Pattern} {name w : List ℕ} {left : ℕ} (still : Still P name w left) (fits : left ≤ length name) (long : length w ≡ length name)
    (follow : List Set) (work : List ℕ) (f : Follows P follow) (rows : RowsOf P name work) (i : ℕ) (e : suc i ≡ left)
    {p : ℕ} (before : p ≡ get_or (0 ∷ w) i 0) where
  abbrev bs : List ℕ
  bs = drop (suc i) name

  abbrev picked_here : ℕ
  picked_here = pick (fine P (get_or name i 0) bs p) (suc (get_or w i 0)) (size P.tree - get_or w i 0)

  inside : i < length name
  inside = omega arith

  here : (r : ℕ) → r ≡ picked_here → next_at P name w i ≡ afresh (ok_in P) (stop P.tree) (size P.tree) bs r
  here r d =
      let rest = rw (← e) at still.stays in
      rw (← before, drop-cons name i 0 inside, drop-cons w i 0 (omega (arith, inside)), d)
      (next_here (ok_in P) (stop P.tree) (size P.tree) (get_or name i 0) bs p (get_or w i 0) (drop (suc i) w) rest)

  -- nothing after the entry may come there
  pub still_turn : ((x : ℕ) → suc (get_or w i 0) ≤ x → may follow work i p x ≡ false) → Still P name w i
  still_turn n = record { stays = here 0 (later_none P (get_or name i 0) bs follow (row_at work i) f (rows i inside) p (get_or w i 0) n) }

  -- the place moves to r
  pub moves : {r : ℕ} → LeastAt (may follow work i p) (suc (get_or w i 0)) r
      → T (readable P (drop (suc i) name) r) × (next_reading P name w ≡ some (take i w ++ r ∷ chosen P (drop (suc i) name) r))
  moves {r} l = (
    rw picked (picked_live P (get_or name i 0) bs p (suc (get_or w i 0)) (size P.tree - get_or w i 0) (rw (← picked) (lt→ltb 0 r (omega (arith, l.above))))),
    next_from (ok_in P) (stop P.tree) (size P.tree) i name w (r ∷ chosen P bs r) 0 (here r picked ∙ some_afresh r (omega (arith, l.above))),
  )
    where
      picked : r ≡ picked_here
      picked = later_pick P (get_or name i 0) bs follow (row_at work i) f (rows i inside) p (get_or w i 0) r l

      some_afresh : (r : ℕ) → 0 < r → afresh (ok_in P) (stop P.tree) (size P.tree) bs r ≡ some (r ∷ chosen P bs r)
      some_afresh zero z = absurd (omega arith)
      some_afresh (suc r) z = refl

-- the entry is put, and all after it is chosen
pub advanced : (P : Pattern) (name w : List ℕ) {v put : List ℕ} {i : ℕ} (q : ℕ) → i < length w → put ≡ set w i q
    → v ≡ take (i + 1) put ++ chosen P (drop (i + 1) name) q
    → next_reading P name w ≡ some (take i w ++ q ∷ chosen P (drop (suc i) name) q) → next_reading P name w ≡ some v
advanced P name w {i = i} q h p e m = m ∙ ap some (sym (e ∙ rw (p, add-one i, take-suc-set w i q h, append_assoc) refl))

-- what every entry is, the entry before a place is too
pub before_small : (w : List ℕ) (i : ℕ) {n : ℕ} → i ≤ n → Small n w → get_or (0 ∷ w) i 0 < set_bits
before_small w zero h s = omega arith
before_small w (suc i) h s = s i h
