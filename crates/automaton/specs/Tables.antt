-- What the tables of a pattern hold. Position 0 is the start.
use Rattle.std.specs.Prelude.{◌≡◌, Bool, cond, ◌&&◌, List, ℕ, ◌+◌, ◌<◌, ◌≤◌, length, leb, ltb}
use Rattle.rules.specs.Limits.{highest_byte}
use Rattle.bits.specs.declared.Set.{Set}
use Rattle.bits.specs.Sets.{set_bits, member, has, Empty}
use Rattle.language.specs.Tree.{size}
use Rattle.language.specs.Reading.{Pattern}
use Rattle.language.specs.Follow.{step, stop}
use Rattle.automaton.specs.declared.Tables.{Tables}

-- a set for each byte up to the highest literal
abbrev pub letter_sets : ℕ
letter_sets = highest_byte + 1

-- the set of a byte; those above share that of 0, which is no literal either
abbrev pub letter_of : ℕ → ℕ
letter_of b = cond (ltb b letter_sets) b 0

-- set p of `follow` has what may come after the position p, or at the start where p is 0
abbrev pub Follows : Pattern → List Set → Type 0
Follows P follow = (p q : ℕ) → has follow p q ≡ step P.tree p q

-- `stops` has the positions after which a word may end
abbrev pub Stops : Pattern → Set → Type 0
Stops P stops = (p : ℕ) → member stops p ≡ stop P.tree p

-- q is a position of the pattern, and takes the byte b
abbrev pub takes_at : Pattern → ℕ → ℕ → Bool
takes_at P b q = leb 1 q && leb q (size P.tree) && P.takes q b

-- the set of the byte b in `letters` has the positions that take b
abbrev pub Letters : Pattern → List Set → Type 0
Letters P letters = (b q : ℕ) → has letters (letter_of b) q ≡ takes_at P b q

-- the tables of no sheet: nothing may follow anything, and no position takes a byte
pub record Blank (t : Tables) : Type 0 where
  pub steps : Empty t.follow
  pub letter : Empty t.letters
  pub positions : set_bits ≤ length t.follow
  pub bytes : letter_sets ≤ length t.letters

-- the tables of a pattern, whose positions fit a set
pub record TablesOf (P : Pattern) (t : Tables) : Type 0 where
  pub steps : Follows P t.follow
  pub ends : Stops P t.stops
  pub letter : Letters P t.letters
  pub fits : size P.tree < set_bits
