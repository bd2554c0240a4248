-- The least live position that may come next is the one that the definitions pick.
use mathlib.Core.Path.{◌≡◌, refl, sym, ◌∙◌}
use mathlib.Core.Logic.{by_cases}
use mathlib.Core.Bool.{Bool, true, false, true≢false, ◌&&◌}
use mathlib.Core.List.{List}
use Rattle.std.specs.Prelude.{Option, None, Some, IfSome}
use Rattle.std.specs.Option.{unwrap_or}
use Prim.Native.Nat.{ℕ, suc, ◌+◌, ◌-◌, ◌<◌, ◌≤◌}
use native.Mathlib.Decide.{dec_lt}
use native.Mathlib.Omega.{arith}
use lib.Dec.{T, ltb}
use borrow.Author.Tests.{ltb-true}
use Rattle.language.specs.Tree.{size}
use Rattle.language.specs.Reading.{Pattern}
use Rattle.language.specs.Local.{In}
use Rattle.language.specs.Follow.{step, stop}
use Rattle.language.specs.Search.{pick, good, ok_in}
use Rattle.language.proofs.Decides.{and_left, and_right, and_in}
use Rattle.language.proofs.Search.{Pick, found as picked, nowhere as unpicked, pick_view}
use Rattle.bits.specs.declared.Set.{Set}
use Rattle.bits.specs.Sets.{set_bits, has, row_has, LeastAt}
use Rattle.automaton.specs.Tables.{Follows}
use Rattle.rows.specs.Rows.{readable, can, Live}
use Rattle.mapping.specs.declared.Position.{Position}
use Rattle.choices.specs.Moves.{LeastPosition}
use Rattle.rows.proofs.Live.{T_true, true_T, choice_to, choice_step, choice_can}

-- the least number of a set is what `pick` gives, where the set is what passes the test; where none passes, it gives 0
module _ (f g : ℕ → Bool) (lo k : ℕ) (into : (q : ℕ) → lo ≤ q → g q ≡ true → In lo (lo + k) q × T (f q))
    (back : (q : ℕ) → In lo (lo + k) q → T (f q) → g q ≡ true) where
  pub least_picked : (r : ℕ) → LeastAt g lo r → r ≡ pick f lo k
  least_picked r l = go (pick f lo k) (pick_view f lo k)
    where
      go : (m : ℕ) → Pick f lo (lo + k) m → r ≡ m
      go m (picked i t u) =
          by_cases (dec_lt r m)
          (λ (d : r < m). absurd (u r (omega (arith, l.above)) (into r l.above l.passes).1))
          (λ (d : ¬ (r < m)).
          by_cases (dec_lt m r) (λ (d' : m < r). absurd (true≢false (sym (back m i t) ∙ l.least m i.low d'))) (λ (d' : ¬ (m < r)). omega arith))
      go m (unpicked u) = let (i, t) = into r l.above l.passes in absurd (u r i t)

  pub none_picked : ((x : ℕ) → lo ≤ x → g x ≡ false) → 0 ≡ pick f lo k
  none_picked n = go (pick f lo k) (pick_view f lo k)
    where
      go : (m : ℕ) → Pick f lo (lo + k) m → 0 ≡ m
      go m (picked i t u) = absurd (true≢false (sym (back m i t) ∙ n m i.low))
      go m (unpicked u) = refl

-- a position of a row is one that a set can have
pub row_below : (row : List ℕ) (q : ℕ) → row_has row q ≡ true → q < set_bits
unfolding row_has
row_below row q e = ltb-true q set_bits (true_T _ (and_left (ltb q set_bits) _ (T_true _ e)))

-- a position, or the start where there is none
abbrev pub or_start : Option Position → Position
or_start o = unwrap_or o (record { 0 = 0 })

pub start_below : (o : Option Position) → IfSome o (λ q. q.0 < set_bits) → (or_start o).0 < set_bits
start_below None h = omega arith
start_below (Some q) h = h

module _ (P : Pattern) (b : ℕ) (bs : List ℕ) where
  abbrev pub fine : ℕ → ℕ → Bool
  fine = good (ok_in P) (stop P.tree) (size P.tree) b bs

  -- what was picked leaves the rest readable
  pub picked_live : (p lo k : ℕ) → T (ltb 0 (pick (fine p) lo k)) → T (readable P bs (pick (fine p) lo k))
  picked_live p lo k = go (pick (fine p) lo k) (pick_view (fine p) lo k)
    where
      go : (m : ℕ) → Pick (fine p) lo (lo + k) m → T (ltb 0 m) → T (readable P bs m)
      go m (picked i t u) h = and_right (ok_in P p b m) (readable P bs m) t
      go m (unpicked u) h = absurd h

  module _ (follow : List Set) (row : List ℕ) (f : Follows P follow) (l : Live P b bs row) (p : ℕ) where
    -- live, and may come after p
    abbrev pub next : ℕ → Bool
    next q = row_has row q && has follow p q

    pub next_to : (q : ℕ) → next q ≡ true → In 1 (1 + size P.tree) q × T (fine p q)
    next_to q e =
        let h = T_true (next q) e in
        choice_to P b bs p q (T_true (step P.tree p q) (sym (f p q) ∙ true_T (has follow p q) (and_right (row_has row q) (has follow p q) h)))
        (T_true (can P b bs q) (sym (l q) ∙ true_T (row_has row q) (and_left (row_has row q) (has follow p q) h)))

    pub next_from : (q : ℕ) → In 1 (1 + size P.tree) q → T (fine p q) → next q ≡ true
    next_from q i h =
        rw (l q, f p q)
        (true_T (can P b bs q && step P.tree p q) (and_in (can P b bs q) (step P.tree p q) (choice_can P b bs p q i h) (choice_step P b bs p q h)))

    pub first_pick : (o : Option Position) → LeastPosition next 1 o → (or_start o).0 ≡ pick (fine p) 1 (size P.tree)
    first_pick (Some q) l = least_picked (fine p) next 1 (size P.tree) (λ q n e. next_to q e) next_from q.0 l
    first_pick None n = none_picked (fine p) next 1 (size P.tree) (λ q n e. next_to q e) next_from n

    -- the least after w, and where there is none
    module _ (w : ℕ) where
      later_to : (q : ℕ) → suc w ≤ q → next q ≡ true → In (suc w) (suc w + (size P.tree - w)) q × T (fine p q)
      later_to q n e = let (i, t) = next_to q e in (omega (arith, i.high), t)

      later_from : (q : ℕ) → In (suc w) (suc w + (size P.tree - w)) q → T (fine p q) → next q ≡ true
      later_from q i t = next_from q (omega arith) t

      pub later_pick : (r : ℕ) → LeastAt next (suc w) r → r ≡ pick (fine p) (suc w) (size P.tree - w)
      later_pick = least_picked (fine p) next (suc w) (size P.tree - w) later_to later_from

      pub later_none : ((x : ℕ) → suc w ≤ x → next x ≡ false) → 0 ≡ pick (fine p) (suc w) (size P.tree - w)
      later_none = none_picked (fine p) next (suc w) (size P.tree - w) later_to later_from
