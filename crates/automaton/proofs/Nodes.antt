-- The walk over the node bytes: what is left of them, and what waits.
use mathlib.Core.Path.{◌≡◌, refl, ap, ◌∙◌, subst}
use mathlib.Core.Logic.{by_cases}
use mathlib.Core.Bool.{false, ◌&&◌, and-false}
use mathlib.Core.Option.{some}
use mathlib.Core.List.{List, [], ◌∷◌, map}
use Prim.Native.Nat.{ℕ, zero, suc, ◌+◌, ◌-◌, ◌<◌, ◌≤◌}
use native.Mathlib.Decide.{dec_lt, ℕ_discrete}
use native.Mathlib.Numerals.{add-one}
use native.Mathlib.Omega.{arith}
use lib.ListN.{length, get_or, drop, length-drop, length-map}
use lib.Seq.{drop-cons}
use lib.Dec.{leb, ltb}
use borrow.Author.Tests.{eq-eqb, ne_eqb, le-leb, lt-leb, lt-ltb}
use Rattle.rules.specs.Limits.{leaf_limit, node_limit, waiting_limit}
use Rattle.rules.proofs.Grounds.{some_eq, no_some}
use Rattle.language.specs.Follow.{follow}
use Rattle.language.specs.Tree.{Tree, leaf, empty, cat, alt, star, size}
use Rattle.sheet.specs.Nodes.{Node, a_leaf, an_empty, a_cat, a_union, a_star, no_node, node_of, build}
use Rattle.bits.specs.declared.Set.{Set}
use Rattle.bits.specs.Sets.{set_bits, member, Empty}
use Rattle.automaton.specs.declared.Fragment.{Fragment}
use Rattle.automaton.specs.Walk.{FragmentOf, Only, State}
use Rattle.automaton.proofs.Steps.{held_length, LinkedBy, alt_state, cat_state, star_state}

-- the leaves of the waiting trees
abbrev total : List (Tree ℕ) → ℕ
total [] = 0
total (t ∷ ts) = size t + total ts

-- what waits can still become one tree: so few wait that the nodes left can join them, and they have no more leaves than it
record Room (ns : List Node) (ts : List (Tree ℕ)) (t : Tree ℕ) : Type 0 where
  deep : length ts ≤ length ns + 1
  wide : total ts ≤ size t

room : (p : ℕ) (ns : List Node) (ts : List (Tree ℕ)) (t : Tree ℕ) → build p ns ts ≡ some (t ∷ []) → Room ns ts t
room p [] ts t e = rw (some_eq e) record { deep = omega arith; wide = omega arith }
room p (a_leaf ∷ ns) ts t e = let h = room (suc p) ns (leaf p ∷ ts) t e in record { deep = omega (arith, h.deep); wide = omega (arith, h.wide) }
room p (an_empty ∷ ns) ts t e = let h = room p ns (empty ∷ ts) t e in record { deep = omega (arith, h.deep); wide = omega (arith, h.wide) }
room p (a_cat ∷ ns) [] t e = no_some e
room p (a_cat ∷ ns) (u ∷ []) t e = no_some e
room p (a_cat ∷ ns) (u ∷ r ∷ ts) t e = let h = room p ns (cat r u ∷ ts) t e in record { deep = omega (arith, h.deep); wide = omega (arith, h.wide) }
room p (a_union ∷ ns) [] t e = no_some e
room p (a_union ∷ ns) (u ∷ []) t e = no_some e
room p (a_union ∷ ns) (u ∷ r ∷ ts) t e = let h = room p ns (alt r u ∷ ts) t e in record { deep = omega (arith, h.deep); wide = omega (arith, h.wide) }
room p (a_star ∷ ns) [] t e = no_some e
room p (a_star ∷ ns) (u ∷ ts) t e = let h = room p ns (star u ∷ ts) t e in record { deep = omega (arith, h.deep); wide = omega (arith, h.wide) }
room p (no_node ∷ ns) ts t e = no_some e

-- the members of a set of one, each one on
moved_only : (a b : Set) (p : ℕ) → p + 1 < set_bits → Only p a → ((x : ℕ) → member b x ≡ (leb 1 x && ltb x set_bits && member a (x - 1))) → Only (p + 1) b
moved_only a b p h o m x =
    m x ∙ rw (o (x - 1)) (
    by_cases (ℕ_discrete x (p + 1))
    (λ (d : x ≡ p + 1). rw (eq-eqb x (p + 1) d, le-leb 1 x (omega arith), lt-ltb x set_bits (omega arith), eq-eqb (x - 1) p (omega arith)) refl)
    (λ (n : ¬ (x ≡ p + 1)).
    by_cases (dec_lt x 1)
    (λ (z : x < 1). rw (lt-leb 1 x z, ne_eqb x (p + 1) n) refl)
    (λ (z : ¬ (x < 1)). rw (ne_eqb (x - 1) p (λ e. n (omega arith)), ne_eqb x (p + 1) n, and-false) refl)))

-- of the nodes s those before `at` are read, the trees of fs wait, and `alone` has the next position p
pub record Going (s : List ℕ) (at : ℕ) (alone : Set) (n : List Set) (fs : List Fragment) : Type 0 where
  pub p : ℕ
  pub tree : Tree ℕ
  pub meant : build 1 (map node_of s) [] ≡ some (tree ∷ [])
  pub trees : List (Tree ℕ)
  pub left : build p (map node_of (drop at s)) trees ≡ some (tree ∷ [])
  pub few : length s ≤ node_limit
  pub small : size tree ≤ leaf_limit
  pub read : length trees ≤ at
  pub next : p ≡ 1 + total trees
  pub here : Only p alone
  pub state : State n fs trees

pub start : (s : List ℕ) (n : List Set) (fs : List Fragment) (t : Tree ℕ) (a : Set) → Only 1 a → build 1 (map node_of s) [] ≡ some (t ∷ []) → size t ≤ leaf_limit → length s ≤ node_limit → Empty n → fs ≡ [] → Going s 0 a n fs
start s n fs t a o e small few z none = record {
  p = 1;
  tree = t;
  meant = e;
  trees = [];
  left = e;
  few = few;
  small = small;
  read = omega arith;
  next = refl;
  here = o;
  state = record { held = rw none tt; linked = λ p q. z (suc p) q };
}

-- a node that takes two trees found them, and one that takes one
record TakenTwo (make : Tree ℕ → Tree ℕ → Tree ℕ) (p : ℕ) (ns : List Node) (ts : List (Tree ℕ)) (t : Tree ℕ) : Type 0 where
  r : Tree ℕ
  u : Tree ℕ
  rest : List (Tree ℕ)
  were : ts ≡ u ∷ r ∷ rest
  after : build p ns (make r u ∷ rest) ≡ some (t ∷ [])

record TakenOne (p : ℕ) (ns : List Node) (ts : List (Tree ℕ)) (t : Tree ℕ) : Type 0 where
  r : Tree ℕ
  rest : List (Tree ℕ)
  were : ts ≡ r ∷ rest
  after : build p ns (star r ∷ rest) ≡ some (t ∷ [])

take-cat : (p : ℕ) (ns : List Node) (ts : List (Tree ℕ)) (t : Tree ℕ) → build p (a_cat ∷ ns) ts ≡ some (t ∷ []) → TakenTwo cat p ns ts t
take-cat p ns [] t e = no_some e
take-cat p ns (u ∷ []) t e = no_some e
take-cat p ns (u ∷ r ∷ ts) t e = record { r = r; u = u; rest = ts; were = refl; after = e }

take-alt : (p : ℕ) (ns : List Node) (ts : List (Tree ℕ)) (t : Tree ℕ) → build p (a_union ∷ ns) ts ≡ some (t ∷ []) → TakenTwo alt p ns ts t
take-alt p ns [] t e = no_some e
take-alt p ns (u ∷ []) t e = no_some e
take-alt p ns (u ∷ r ∷ ts) t e = record { r = r; u = u; rest = ts; were = refl; after = e }

take-star : (b p : ℕ) (ns : List Node) (ts : List (Tree ℕ)) (t : Tree ℕ) → 4 ≤ b → build p (node_of b ∷ ns) ts ≡ some (t ∷ []) → TakenOne p ns ts t
take-star zero p ns ts t h e = absurd (omega arith)
take-star (suc zero) p ns ts t h e = absurd (omega arith)
take-star (suc (suc zero)) p ns ts t h e = absurd (omega arith)
take-star (suc (suc (suc zero))) p ns ts t h e = absurd (omega arith)
take-star (suc (suc (suc (suc zero)))) p ns [] t h e = no_some e
take-star (suc (suc (suc (suc zero)))) p ns (r ∷ ts) t h e = record { r = r; rest = ts; were = refl; after = e }
take-star (suc (suc (suc (suc (suc b))))) p ns ts t h e = no_some e

module _ {s : List ℕ} {at : ℕ} {alone : Set} {n : List Set} {fs : List Fragment} (w : Going s at alone n fs) where
  abbrev p : ℕ
  p = w.p

  -- the nodes after the one at `at`
  abbrev rest : List Node
  rest = map node_of (drop (at + 1) s)

  rest-length : length rest ≡ length s - (at + 1)
  rest-length = length-map (drop (at + 1) s) node_of ∙ length-drop (at + 1) s

  depth : length fs ≡ length w.trees
  depth = held_length fs w.trees w.state.held

  pub not_deep : at ≤ length s → length fs ≤ waiting_limit
  not_deep h =
      let r = room p (map node_of (drop at s)) w.trees w.tree w.left in
      omega (arith, r.deep, length-map (drop at s) node_of, length-drop at s, depth, w.read, w.few)

  module _ (h : at < length s) where
    opened : (b : ℕ) → get_or s at 0 ≡ b → build p (node_of b ∷ rest) w.trees ≡ some (w.tree ∷ [])
    opened b e = rw (add-one at, ← e) (rw (drop-cons s at 0 h) at w.left)

    -- one more waits
    module _ (q : ℕ) (a : Set) (t : Tree ℕ) (left : build q rest (t ∷ w.trees) ≡ some (w.tree ∷ [])) where
      grown : length fs < waiting_limit
      grown = let r = room q rest (t ∷ w.trees) w.tree left in omega (arith, r.deep, rest-length, depth, w.read, w.few)

      grow : q ≡ p + size t → Only q a → (f : Fragment) → FragmentOf t f → ((a b : ℕ) → follow t a b ≡ false) → Going s (at + 1) a n (f ∷ fs)
      grow e o f x z = record {
        p = q;
        tree = w.tree;
        meant = w.meant;
        trees = t ∷ w.trees;
        left = left;
        few = w.few;
        small = w.small;
        read = omega (arith, w.read);
        next = omega (arith, w.next);
        here = o;
        state = record { held = (x, w.state.held); linked = λ a b. w.state.linked a b ∙ rw (z (suc a) b) refl };
      }

    pub leaf-fits : get_or s at 0 ≡ 0 → (length fs < waiting_limit) × (1 ≤ p) × (p + 1 < set_bits)
    leaf-fits e =
        let r = room (suc p) rest (leaf p ∷ w.trees) w.tree (opened 0 e) in
        let d = grown (suc p) alone (leaf p) (opened 0 e) in
        omega (arith, r.wide, w.next, w.small)

    pub leaf_turn : get_or s at 0 ≡ 0 → (f : Fragment) → ((p : ℕ) → 1 ≤ p → Only p alone → FragmentOf (leaf p) f)
        → (a : Set) → ((x : ℕ) → member a x ≡ (leb 1 x && ltb x set_bits && member alone (x - 1))) → Going s (at + 1) a n (f ∷ fs)
    leaf_turn e f x a m =
        let (deep, low, high) = leaf-fits e in
        grow (suc p) a (leaf p) (opened 0 e) (omega arith) (rw (add-one p) at (moved_only alone a p high w.here m)) f (x p low w.here) (λ a b. refl)

    pub empty-fits : get_or s at 0 ≡ 1 → length fs < waiting_limit
    empty-fits e = grown p alone empty (opened 1 e)

    pub empty_turn : get_or s at 0 ≡ 1 → (f : Fragment) → FragmentOf empty f → Going s (at + 1) alone n (f ∷ fs)
    empty_turn e f x = grow p alone empty (opened 1 e) (omega arith) w.here f x (λ a b. refl)

    -- two become one
    module _ (make : Tree ℕ → Tree ℕ → Tree ℕ) (sizes : (r u : Tree ℕ) → size (make r u) ≡ size r + size u) (o : TakenTwo make p rest w.trees w.tree) where
      two_turn : (n' : List Set) (fs' : List Fragment) → (State n fs (o.u ∷ o.r ∷ o.rest) → State n' fs' (make o.r o.u ∷ o.rest)) → Going s (at + 1) alone n' fs'
      two_turn n' fs' x = record {
        p = p;
        tree = w.tree;
        meant = w.meant;
        trees = make o.r o.u ∷ o.rest;
        left = o.after;
        few = w.few;
        small = w.small;
        read = omega (arith, ap length o.were, w.read);
        next = omega (arith, ap total o.were, w.next, sizes o.r o.u);
        here = w.here;
        state = x (rw o.were at w.state);
      }

    module _ {a b : Fragment} {one two : List Fragment} (x : fs ≡ b ∷ one) (y : one ≡ a ∷ two) where
      both : (r t : Tree ℕ) (ts : List (Tree ℕ)) → State n fs (t ∷ r ∷ ts) → State n (b ∷ a ∷ two) (t ∷ r ∷ ts)
      both r t ts = subst (λ (l : List Fragment). State n l (t ∷ r ∷ ts)) (x ∙ ap (λ (l : List Fragment). b ∷ l) y)

      pub cat_turn : {n' : List Set} {f : Fragment} → get_or s at 0 ≡ 2 → LinkedBy n n' a.stops b.firsts
          → ((r t : Tree ℕ) → FragmentOf r a → FragmentOf t b → FragmentOf (cat r t) f) → Going s (at + 1) alone n' (f ∷ two)
      cat_turn {n'} {f} e l g =
          let o = take-cat p rest w.trees w.tree (opened 2 e) in
          two_turn cat (λ r u. refl) o n' (f ∷ two) (λ st. cat_state n a b f two o.r o.u o.rest (both o.r o.u o.rest st) n' l (g o.r o.u))

      pub alt_turn : {f : Fragment} → get_or s at 0 ≡ 3 → ((r t : Tree ℕ) → FragmentOf r a → FragmentOf t b → FragmentOf (alt r t) f) → Going s (at + 1) alone n (f ∷ two)
      alt_turn {f} e g =
          let o = take-alt p rest w.trees w.tree (opened 3 e) in
          two_turn alt (λ r u. refl) o n (f ∷ two) (λ st. alt_state n a b f two o.r o.u o.rest (both o.r o.u o.rest st) (g o.r o.u))

    pub star_turn : {n' : List Set} {a f : Fragment} {one : List Fragment} → fs ≡ a ∷ one → 4 ≤ get_or s at 0 → LinkedBy n n' a.stops a.firsts
        → ((r : Tree ℕ) → FragmentOf r a → FragmentOf (star r) f) → Going s (at + 1) alone n' (f ∷ one)
    star_turn {n'} {a} {f} {one} x e l g = go (take-star (get_or s at 0) p rest w.trees w.tree e (opened (get_or s at 0) refl))
      where
        go : TakenOne p rest w.trees w.tree → Going s (at + 1) alone n' (f ∷ one)
        go o = record {
          p = p;
          tree = w.tree;
          meant = w.meant;
          trees = star o.r ∷ o.rest;
          left = o.after;
          few = w.few;
          small = w.small;
          read = omega (arith, ap length o.were, w.read);
          next = omega (arith, ap total o.were, w.next);
          here = w.here;
          state = star_state n n' a f one o.r o.rest l (g o.r) (subst (λ (l : List Fragment). State n l (o.r ∷ o.rest)) x (rw o.were at w.state));
        }
