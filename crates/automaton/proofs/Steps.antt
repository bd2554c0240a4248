-- What a node does to the waiting fragments and to the table of followers.
use mathlib.Core.Path.{◌≡◌, refl, ap, ◌∙◌}
use mathlib.Core.Bool.{Bool, true, false, ◌||◌, ◌&&◌}
use mathlib.Core.List.{List, [], ◌∷◌}
use Prim.Native.Nat.{ℕ, suc}
use lib.ListN.{length}
use Rattle.language.specs.Tree.{Tree, cat, alt, star}
use Rattle.language.specs.Follow.{first, last, follow}
use Rattle.bits.specs.declared.Set.{Set}
use Rattle.bits.specs.Sets.{member, has}
use Rattle.automaton.specs.declared.Fragment.{Fragment}
use Rattle.automaton.specs.Walk.{FragmentOf, Held, follow_all, State}

pub held_length : (fs : List Fragment) (ts : List (Tree ℕ)) → Held fs ts → length fs ≡ length ts
held_length [] [] h = refl
held_length [] (t ∷ ts) h = absurd h
held_length (f ∷ fs) [] h = absurd h
held_length (f ∷ fs) (t ∷ ts) h = ap suc (held_length fs ts h.1)

or-alt : (a b c : Bool) → (a || (b || c)) ≡ ((b || a) || c)
or-alt true true c = refl
or-alt true false c = refl
or-alt false true c = refl
or-alt false false c = refl

or-cat : (a b c d : Bool) → ((a || (b || c)) || d) ≡ ((b || a || d) || c)
or-cat true true c d = refl
or-cat true false c d = refl
or-cat false true c d = refl
or-cat false false true true = refl
or-cat false false true false = refl
or-cat false false false true = refl
or-cat false false false false = refl

or-star : (a b c : Bool) → ((a || b) || c) ≡ ((a || c) || b)
or-star true b c = refl
or-star false true true = refl
or-star false true false = refl
or-star false false true = refl
or-star false false false = refl

-- from the table xs to the table ys, all of `to` was put after each of `from`
abbrev pub LinkedBy : List Set → List Set → Set → Set → Type 0
LinkedBy xs ys from to = (p q : ℕ) → has ys p q ≡ (has xs p q || member from p && member to q)

module _ (n : List Set) (a b f : Fragment) (fs : List Fragment) (r t : Tree ℕ) (ts : List (Tree ℕ)) (st : State n (b ∷ a ∷ fs) (t ∷ r ∷ ts)) where
  pub alt_state : (FragmentOf r a → FragmentOf t b → FragmentOf (alt r t) f) → State n (f ∷ fs) (alt r t ∷ ts)
  alt_state x = record {
    held = (x st.held.1.0 st.held.0, st.held.1.1);
    linked = λ p q. st.linked p q ∙ or-alt (follow t (suc p) q) (follow r (suc p) q) (follow_all ts (suc p) q);
  }

  pub cat_state : (n' : List Set) → LinkedBy n n' a.stops b.firsts → (FragmentOf r a → FragmentOf t b → FragmentOf (cat r t) f) → State n' (f ∷ fs) (cat r t ∷ ts)
  cat_state n' l x = record {
    held = (x st.held.1.0 st.held.0, st.held.1.1);
    linked = λ p q.
        l (suc p) q ∙ rw (st.linked p q, st.held.1.0.ends (suc p), st.held.0.begins q)
        (or-cat (follow t (suc p) q) (follow r (suc p) q) (follow_all ts (suc p) q) (last r (suc p) && first t q));
  }

pub star_state : (n n' : List Set) (a f : Fragment) (fs : List Fragment) (r : Tree ℕ) (ts : List (Tree ℕ))
    → LinkedBy n n' a.stops a.firsts → (FragmentOf r a → FragmentOf (star r) f) → State n (a ∷ fs) (r ∷ ts) → State n' (f ∷ fs) (star r ∷ ts)
star_state n n' a f fs r ts l x st = record {
  held = (x st.held.0, st.held.1);
  linked = λ p q.
      l (suc p) q ∙ rw (st.linked p q, st.held.0.ends (suc p), st.held.0.begins q) (or-star (follow r (suc p) q) (follow_all ts (suc p) q) (last r (suc p) && first r q));
}
