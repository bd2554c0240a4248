-- What a row holds, from the row after it: the steps by which rows are filled from the right.
use mathlib.Core.Path.{◌≡◌, refl, sym, ◌∙◌}
use mathlib.Core.Logic.{by_cases}
use mathlib.Core.Bool.{Bool, true, false, true≢false, ◌&&◌}
use mathlib.Core.List.{List, [], ◌∷◌}
use Prim.Native.Nat.{ℕ, suc, ◌+◌, ◌*◌, ◌-◌, ◌<◌, ◌≤◌}
use native.Mathlib.Decide.{ℕ_discrete}
use native.Mathlib.Numerals.{add-one}
use native.Mathlib.Omega.{arith}
use lib.Dec.{T, ltb, leb, leb→le, le→leb}
use lib.ListN.{length, get_or, drop}
use lib.Seq.{drop-cons, drop-drop, drop-length}
use Rattle.rules.specs.Limits.{row_size}
use Rattle.language.specs.Tree.{size}
use Rattle.language.specs.Reading.{Pattern}
use Rattle.language.specs.Local.{In}
use Rattle.language.specs.Follow.{step, stop}
use Rattle.language.specs.Search.{pick, good, ok_in, accepts}
use Rattle.language.proofs.Decides.{and_left, and_right, and_in}
use Rattle.language.proofs.Search.{Pick, found, nowhere, pick_view, picked}
use Rattle.bits.specs.declared.Set.{Set}
use Rattle.bits.specs.Sets.{empty_set, member, has, row_has, share}
use Rattle.bits.proofs.Shares.{share_in, share_out}
use Rattle.automaton.specs.Tables.{Follows, Stops, Letters, letter_of, takes_at}
use Rattle.rows.specs.Rows.{readable, can, Live, LastLive, row_at, RowOf, RowsOf}

pub T_true : (b : Bool) → b ≡ true → T b
T_true b e = rw e tt

pub true_T : (b : Bool) → T b → b ≡ true
true_T true h = refl
true_T false h = absurd h

-- what `can` says
pub record Can (P : Pattern) (b : ℕ) (bs : List ℕ) (q : ℕ) : Type 0 where
  pub low : 1 ≤ q
  pub high : q ≤ size P.tree
  pub takes : T (P.takes q b)
  pub rest : T (readable P bs q)

module _ (P : Pattern) (b : ℕ) (bs : List ℕ) where
  abbrev L : ℕ
  L = size P.tree

  abbrev fine : ℕ → ℕ → Bool
  fine = good (ok_in P) (stop P.tree) (size P.tree) b bs

  pub can_to : (q : ℕ) → T (can P b bs q) → Can P b bs q
  can_to q h =
      let t = and_left (takes_at P b q) (readable P bs q) h in
      let i = and_left (leb 1 q && leb q L) (P.takes q b) t in
      record {
        low = leb→le 1 q (and_left (leb 1 q) (leb q L) i);
        high = leb→le q L (and_right (leb 1 q) (leb q L) i);
        takes = and_right (leb 1 q && leb q L) (P.takes q b) t;
        rest = and_right (takes_at P b q) (readable P bs q) h;
      }

  pub can_from : (q : ℕ) → Can P b bs q → T (can P b bs q)
  can_from q c =
      and_in (takes_at P b q) (readable P bs q)
      (and_in (leb 1 q && leb q L) (P.takes q b) (and_in (leb 1 q) (leb q L) (le→leb 1 q c.low) (le→leb q L c.high)) c.takes)
      c.rest

  -- what may be chosen after p is what may come after p and can be read
  pub choice_to : (p q : ℕ) → T (step P.tree p q) → T (can P b bs q) → In 1 (1 + L) q × T (fine p q)
  choice_to p q s h =
      let c = can_to q h in
      (omega arith, and_in (ok_in P p b q) (readable P bs q) (and_in (step P.tree p q) (P.takes q b) s c.takes) c.rest)

  pub choice_step : (p q : ℕ) → T (fine p q) → T (step P.tree p q)
  choice_step p q h = and_left (step P.tree p q) (P.takes q b) (and_left (ok_in P p b q) (readable P bs q) h)

  pub choice_can : (p q : ℕ) → In 1 (1 + L) q → T (fine p q) → T (can P b bs q)
  choice_can p q i h =
      let o = and_left (ok_in P p b q) (readable P bs q) h in
      can_from q (record {
        low = i.low;
        high = omega arith;
        takes = and_right (step P.tree p q) (P.takes q b) o;
        rest = and_right (ok_in P p b q) (readable P bs q) h;
      })

  -- after p, b and then bs can be read exactly if a follower of p is in the row for b
  module _ (follow : List Set) (after : Set) (f : Follows P follow) (row : (q : ℕ) → member after q ≡ can P b bs q) where
    abbrev of : ℕ → Set
    of p = get_or follow p empty_set

    steps : (p q : ℕ) → member (of p) q ≡ step P.tree p q
    unfolding has
    steps p q = f p q

    pub share-readable : (p : ℕ) → share (of p) after ≡ readable P (b ∷ bs) p
    share-readable p = go (share (of p) after) refl
      where
        none : (m : ℕ) → Pick (fine p) 1 (1 + L) m → share (of p) after ≡ false → ltb 0 m ≡ false
        none m (found i g n) e =
            absurd (true≢false (sym
            (share_in (of p) after m (steps p m ∙ true_T (step P.tree p m) (choice_step p m g)) (row m ∙ true_T (can P b bs m) (choice_can p m i g))) ∙ e))
        none m (nowhere n) e = refl

        go : (s : Bool) → share (of p) after ≡ s → s ≡ readable P (b ∷ bs) p
        go true e =
            let (q, (u, v)) = share_out (of p) after e in
            let (i, g) = choice_to p q (T_true _ (sym (steps p q) ∙ u)) (T_true _ (sym (row q) ∙ v)) in
            sym (true_T _ (picked (fine p) 1 L q (omega arith) i g))
        go false e = sym (none (pick (fine p) 1 L) (pick_view (fine p) 1 L) e)

  -- a row from the row after it
  pub live_step : (follow letters : List Set) (taking after kept : Set) (row rows : List ℕ) (byte : ℕ) → Follows P follow → Letters P letters
      → ((x : ℕ) → member taking x ≡ has letters (letter_of byte) x)
      → ((x : ℕ) → member after x ≡ row_has rows x)
      → ((x : ℕ) → member kept x ≡ (member taking x && share (get_or follow x empty_set) after))
      → ((x : ℕ) → row_has row x ≡ member kept x)
      → Live P b bs rows → Live P byte (b ∷ bs) row
  live_step follow letters taking after kept row rows byte f l t a k s old q =
      s q ∙ k q ∙ rw (t q, l byte q, share-readable follow after f (λ x. a x ∙ old x) q) refl

-- the row of the last place
pub live-last : (P : Pattern) (stops : Set) (letters : List Set) (taking both : Set) (row : List ℕ) (byte : ℕ) → Stops P stops → Letters P letters
    → ((x : ℕ) → member taking x ≡ has letters (letter_of byte) x)
    → ((x : ℕ) → member both x ≡ (member taking x && member stops x))
    → ((x : ℕ) → row_has row x ≡ member both x)
    → LastLive P byte row
live-last P stops letters taking both row byte e l t c s q = s q ∙ c q ∙ rw (t q, l byte q, e q) refl

-- ---- all rows

-- rows after the row of place i are as they were
pub row_later : (xs ys : List ℕ) (i j : ℕ) → i < j → row_at ys (i + 1) ≡ row_at xs (i + 1) → row_at ys j ≡ row_at xs j
row_later xs ys i j h e =
    let d : row_size * j ≡ row_size * (i + 1) + (row_size * j - row_size * (i + 1)) = omega arith in
    rw (d, ← drop-drop (row_size * j - row_size * (i + 1)) (row_size * (i + 1)) ys, ← drop-drop (row_size * j - row_size * (i + 1)) (row_size * (i + 1)) xs, e) refl

abbrev pub RowsFrom : Pattern → List ℕ → List ℕ → ℕ → Type 0
RowsFrom P name work i = (j : ℕ) → i ≤ j → j < length name → RowOf P name work j

module _ (P : Pattern) (name : List ℕ) where
  pub rows_start : (work : List ℕ) (i : ℕ) → suc i ≡ length name → LastLive P (get_or name i 0) (row_at work i) → RowsFrom P name work i
  rows_start work i e h j l n = let d : j ≡ i = omega arith in rw (d, e, drop-length name) h

  -- the row of place i is filled, and those after it are as they were
  pub rows_turn : (xs ys : List ℕ) (i k : ℕ) → k ≡ i + 1 → k < length name → row_at ys (i + 1) ≡ row_at xs (i + 1)
      → ((b : ℕ) (bs : List ℕ) → Live P b bs (row_at xs (i + 1)) → Live P (get_or name i 0) (b ∷ bs) (row_at ys i))
      → RowsFrom P name xs k → RowsFrom P name ys i
  rows_turn xs ys i k e h same fill old j l n =
      by_cases (ℕ_discrete j i)
      (λ (d : j ≡ i).
      let f : k ≡ suc i = omega arith in
      rw (d, drop-cons name (suc i) 0 (omega arith)) (fill (get_or name (suc i) 0) (drop (suc (suc i)) name) (rw (add-one i) (rw f at (old k (omega arith) h)))))
      (λ (d : ¬ (j ≡ i)). rw (row_later xs ys i j (omega arith) same) (old j (omega arith) n))

-- ---- whether there is a reading

module _ (P : Pattern) where
  pub begins-empty : (stops : Set) (name : List ℕ) → Stops P stops → length name ≡ 0 → member stops 0 ≡ accepts P name
  begins-empty stops [] s e = s 0
  begins-empty stops (b ∷ bs) s e = absurd (omega arith)

  pub begins_some : (follow : List Set) (after : Set) (name work : List ℕ) → Follows P follow → (length name ≡ 0 → ⊥) → RowsOf P name work
      → ((x : ℕ) → member after x ≡ row_has work x)
      → share (get_or follow 0 empty_set) after ≡ accepts P name
  begins_some follow after [] work f n r a = absurd (n refl)
  begins_some follow after (b ∷ bs) work f n r a = share-readable P b bs follow after f (λ q. a q ∙ r 0 (omega arith) q) 0
