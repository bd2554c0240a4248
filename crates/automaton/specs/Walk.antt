-- What is known while the nodes are read: the fragments of the waiting subtrees, and what follows what so far.
use Rattle.std.specs.Prelude.{◌≡◌, Bool, false, ◌||◌, ◌&&◌, List, [], ◌∷◌, ℕ, suc, eqb, leb}
use Rattle.language.specs.Tree.{Tree}
use Rattle.language.specs.Follow.{first, follow, stop}
use Rattle.sheet.specs.Layout.{takes}
use Rattle.bits.specs.declared.Set.{Set}
use Rattle.bits.specs.Sets.{member, has}
use Rattle.automaton.specs.declared.Fragment.{Fragment}

-- the fragment is the subtree t's: its first positions, and where a word of it may end (0: at once)
pub record FragmentOf (t : Tree ℕ) (f : Fragment) : Type 0 where
  pub begins : (q : ℕ) → member f.firsts q ≡ first t q
  pub ends : (q : ℕ) → member f.stops q ≡ stop t q

-- the set has the position p alone
abbrev pub Only : ℕ → Set → Type 0
Only p s = (x : ℕ) → member s x ≡ eqb x p

-- the fragments of the waiting subtrees, the last made first
abbrev pub Held : List Fragment → List (Tree ℕ) → Type 0
Held [] [] = Unit {0}
Held [] (t ∷ ts) = ⊥
Held (f ∷ fs) [] = ⊥
Held (f ∷ fs) (t ∷ ts) = FragmentOf t f × Held fs ts

-- what the waiting subtrees let follow one another; set 0 is filled at the end
abbrev pub follow_all : List (Tree ℕ) → ℕ → ℕ → Bool
follow_all [] p q = false
follow_all (t ∷ ts) p q = follow t p q || follow_all ts p q

abbrev pub Linked : List Set → List (Tree ℕ) → Type 0
Linked table ts = (p q : ℕ) → has table (suc p) q ≡ follow_all ts (suc p) q

pub record State (table : List Set) (fs : List Fragment) (ts : List (Tree ℕ)) : Type 0 where
  pub held : Held fs ts
  pub linked : Linked table ts

-- set b of `letters` has the positions up to n whose leaf takes b
abbrev pub LettersTo : List ℕ → List Set → ℕ → Type 0
LettersTo sheet letters n = (b q : ℕ) → has letters b q ≡ (leb 1 q && leb q n && takes sheet q b)
