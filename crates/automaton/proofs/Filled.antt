-- The table of letters, position after position, and the finished tables.
use mathlib.Core.Path.{◌≡◌, refl, sym, ◌∙◌}
use mathlib.Core.Logic.{by_cases}
use mathlib.Core.Bool.{Bool, true, false, ◌||◌, ◌&&◌, and-true, and-false, or-false}
use mathlib.Core.Option.{none, some}
use Rattle.std.specs.Prelude.{Option, Some, None, IfSome, unwrap_or}
use Rattle.std.specs.Option.{is_some}
use Rattle.std.proofs.lemmas.List.{get_or_default}
use denote.Bor.{Bor}
use mathlib.Core.List.{List, [], ◌∷◌, map}
use Prim.Native.Nat.{ℕ, ◌+◌, zero, suc, ◌<◌, ◌≤◌}
use native.Mathlib.Decide.{dec_lt, ℕ_discrete}
use native.Mathlib.Omega.{arith}
use lib.ListN.{length, get_or, set, replicate, get_or-replicate, get_or-eq_default, length-replicate}
use lib.Seq.{get_or-set_same, get_or-set_other}
use lib.Dec.{eqb, leb, ltb}
use borrow.Author.Tests.{eq-eqb, ne_eqb, le-leb, lt-leb, lt-ltb, le-ltb, ltb-true, ltb-false}
use Rattle.rules.specs.Limits.{leaf_limit, lowest_byte, highest_byte, outside}
use Rattle.rules.proofs.Grounds.{some_eq}
use Rattle.language.specs.Tree.{Tree, size}
use Rattle.language.specs.Reading.{Pattern}
use Rattle.language.specs.Follow.{follow, step}
use Rattle.sheet.specs.Nodes.{node_of, build}
use Rattle.sheet.specs.Layout.{leaf_count, node_bytes, takes}
use Rattle.sheet.specs.Refusals.{sheet_refusal}
use Rattle.sheet.specs.Stands.{stands_for}
use Rattle.sheet.proofs.Accepted.{conditions, takes_none, Meant, accepted_meant, standing}
use Rattle.bits.specs.declared.Set.{Set}
use Rattle.bits.specs.Sets.{empty_set, member, has, Empty}
use Rattle.bits.proofs.Members.{none_empty}
use Rattle.automaton.specs.declared.Fragment.{Fragment}
use Rattle.automaton.specs.declared.Tables.{Tables}
use Rattle.automaton.specs.Tables.{letter_sets, letter_of, takes_at, TablesOf}
use Rattle.automaton.specs.Walk.{State, LettersTo}

-- a set of a table with more in it
put_in : (xs : List Set) (l : ℕ) (u : Set) → l < length xs → (f : ℕ → Bool) → ((q : ℕ) → member u q ≡ (member (get_or xs l empty_set) q || f q))
    → (b q : ℕ) → has (set xs l u) b q ≡ (has xs b q || eqb b l && f q)
unfolding has
put_in xs l u z f g b q =
    by_cases (ℕ_discrete b l)
    (λ (d : b ≡ l). rw (d, eq-eqb l l refl, get_or-set_same xs l u empty_set z) (g q))
    (λ (n : ¬ (b ≡ l)). rw (ne_eqb b l n, get_or-set_other xs l b u empty_set n) (sym (or-false (member (get_or xs b empty_set) q))))

flip_eqb : (p q : ℕ) → eqb p q ≡ eqb q p
flip_eqb p q =
    by_cases (ℕ_discrete p q)
    (λ (e : p ≡ q). rw (eq-eqb p q e, eq-eqb q p (sym e)) refl)
    (λ (n : ¬ (p ≡ q)). rw (ne_eqb p q n, ne_eqb q p (λ e. n (sym e))) refl)

-- the position p, which comes after j, goes into the set of the byte l, which its leaf takes
pub letters_turn : (s : List ℕ) (xs : List Set) (u : Set) (p l j : ℕ) → l < length xs → p ≡ j + 1 → ((b : ℕ) → takes s p b ≡ eqb l b) → LettersTo s xs j
    → ((q : ℕ) → member u q ≡ (member (get_or xs l empty_set) q || eqb q p)) → LettersTo s (set xs l u) p
letters_turn s xs u p l j z k e h g b q =
    put_in xs l u z (λ q. eqb q p) g b q ∙ rw (h b q) (
    by_cases (ℕ_discrete q p)
    (λ (d : q ≡ p). rw (lt-leb q j (omega arith), and-false, eq-eqb q p d, and-true, le-leb 1 q (omega arith), le-leb q p (omega arith), d, e b) (flip_eqb b l))
    (λ (n : ¬ (q ≡ p)). rw (ne_eqb q p n, and-false, or-false, same n) refl))
  where
    same : (q ≡ p → ⊥) → leb q j ≡ leb q p
    same n =
        by_cases (dec_lt p q)
        (λ (h : p < q). rw (lt-leb q p h, lt-leb q j (omega arith)) refl)
        (λ (h : ¬ (p < q)). rw (le-leb q p (omega arith), le-leb q j (omega arith)) refl)

pub letter_own : (b : ℕ) → b < letter_sets → letter_of b ≡ b
letter_own b h = rw (lt-ltb b letter_sets h) refl

pub letter-none : (b : ℕ) → letter_sets ≤ b → letter_of b ≡ 0
letter-none b h = rw (le-ltb b letter_sets h) refl

-- what the code reads for a byte
pub looked_up : (xs : List Set) (b : ℕ) (o : Option (Bor Set)) (r d : Bor Set) → length xs ≡ letter_sets → is_some o ≡ ltb b (length xs) → IfSome o (λ x. x.now ≡ get_or xs b x.now)
    → d.now ≡ get_or xs 0 empty_set → r ≡ unwrap_or o d → (q : ℕ) → member r.now q ≡ has xs (letter_of b) q
unfolding has
looked_up xs b None r d l t h z e q = let above : letter_sets ≤ b = omega (arith, ltb-false b (length xs) (sym t)) in rw (e, z, letter-none b above) refl
looked_up xs b (Some x) r d l t h z e q =
    let below : b < length xs = ltb-true b (length xs) (sym t) in
    rw (e, h ∙ get_or_default xs b x.now empty_set below, letter_own b (omega arith)) refl

-- a leaf that takes no byte outside is in the set of the byte that it takes, and those that share a set take none
letter-same : (takes : ℕ → Bool) (b : ℕ) → ((b : ℕ) → outside b ≡ true → takes b ≡ false) → takes (letter_of b) ≡ takes b
letter-same takes b never =
    by_cases (dec_lt b letter_sets)
    (λ (h : b < letter_sets). rw (letter_own b h) refl)
    (λ (h : ¬ (b < letter_sets)). rw (letter-none b (omega arith), never 0 refl, never b (above b (omega arith))) refl)
  where
    above : (b : ℕ) → highest_byte < b → outside b ≡ true
    above b h = rw (le-ltb b lowest_byte (omega arith), lt-ltb highest_byte b h) refl

at_positions : (n q : ℕ) (u v : Bool) → (1 ≤ q → q ≤ n → u ≡ v) → (leb 1 q && leb q n && u) ≡ (leb 1 q && leb q n && v)
at_positions n q u v f =
    by_cases (dec_lt q 1)
    (λ (h : q < 1). rw (lt-leb 1 q h) refl)
    (λ (h : ¬ (q < 1)).
    by_cases (dec_lt n q)
    (λ (k : n < q). rw (lt-leb q n k, and-false) refl)
    (λ (k : ¬ (n < q)). rw (f (omega arith) (omega arith)) refl))

-- the nodes of an accepted sheet build one tree, which the walk asks for
pub walkable : (s nodes : List ℕ) → sheet_refusal s ≡ none → nodes ≡ node_bytes s → (t : Tree ℕ) × (build 1 (map node_of nodes) [] ≡ some (t ∷ [])) × (size t ≤ leaf_limit)
walkable s nodes e b = let (P, m) = accepted_meant s e in (P.tree, rw b m.nodes, omega (arith, m.sized, (conditions s e).few))

-- an array of one set with no member
pub all_empty : (n : ℕ) (s : Set) → ((x : ℕ) → member s x ≡ false) → Empty (replicate n s)
unfolding has
all_empty n s h k q =
    by_cases (dec_lt k n)
    (λ (l : k < n). rw (get_or-replicate {A = Set} n k s empty_set l) (h q))
    (λ (l : ¬ (k < n)). rw (get_or-eq_default {A = Set} (replicate n s) empty_set {n = k} (omega (arith, length-replicate {A = Set} n s))) (none_empty q))

-- the walk is over: the tree's first positions become the set of the start, its stops stand alone, and the letters are filled
pub finished : (s : List ℕ) (n : List Set) (f : Fragment) (t : Tables) → sheet_refusal s ≡ none → 0 < length n
    → ((t : Tree ℕ) → build 1 (map node_of (node_bytes s)) [] ≡ some (t ∷ []) → State n (f ∷ []) (t ∷ []))
    → t.follow ≡ set n 0 f.firsts → t.stops ≡ f.stops → LettersTo s t.letters (leaf_count s) → (P : Pattern) → stands_for s ≡ some P → TablesOf P t
unfolding has
finished s n f t e long walked x y l P h =
    record { steps = steps; ends = λ p. rw y (state.held.0.ends p); letter = letter; fits = omega (arith, meant.sized, (conditions s e).few) }
  where
    meant : Meant s P
    meant = let (Q, m) = accepted_meant s e in let same : Q ≡ P = some_eq (sym m.stands ∙ h) in rw same at m

    state : State n (f ∷ []) (P.tree ∷ [])
    state = walked P.tree meant.nodes

    steps : (p q : ℕ) → has t.follow p q ≡ step P.tree p q
    steps zero q = rw (x, get_or-set_same n 0 f.firsts empty_set long) (state.held.0.begins q)
    steps (suc p) q = rw (x, get_or-set_other n 0 (suc p) f.firsts empty_set (λ z. omega arith)) (state.linked p q ∙ or-false (follow P.tree (suc p) q))

    letter : (b q : ℕ) → has t.letters (letter_of b) q ≡ takes_at P b q
    letter b q =
        l (letter_of b) q
        ∙ at_positions (leaf_count s) q (takes s q (letter_of b)) (takes s q b) (λ low high. letter-same (takes s q) b (λ c. takes_none s e q c low high))
        ∙ rw (meant.sized, (standing s P h).test) refl
