-- What the search for the next reading finds: the last entry that can move, and the least later position that it can move to.
use Rattle.std.specs.Prelude.{◌≡◌, Bool, true, false, List, ◌∷◌, ◌++◌, ℕ, suc, ◌<◌, ◌≤◌, T, Option, None, Some, MatchOption, take, drop, get_or}
use Rattle.std.proofs.Math.Option.{none, some}
use Rattle.language.specs.Tree.{size}
use Rattle.language.specs.Reading.{Pattern}
use Rattle.language.specs.Follow.{stop}
use Rattle.language.specs.Search.{greedy, ok_in, next_reading}
use Rattle.bits.specs.Sets.{set_bits, LeastAt}
use Rattle.rows.specs.Rows.{readable}
use Rattle.mapping.specs.declared.Position.{Position}
use Rattle.choices.specs.declared.Move.{Move}

-- the position is the least number from `bound` on that passes the test, if one does
abbrev pub LeastPosition : (ℕ → Bool) → ℕ → Option Position → Type 0
LeastPosition f bound found = MatchOption found ((x : ℕ) → bound ≤ x → f x ≡ false) (λ q. LeastAt f bound q.0)

-- the bytes read after p, always by the least position that leaves the rest readable
abbrev pub chosen : Pattern → List ℕ → ℕ → List ℕ
chosen P bs p = greedy (ok_in P) (stop P.tree) (size P.tree) bs p

-- the first n of w are such as a set can have
abbrev pub Small : ℕ → List ℕ → Type 0
Small n w = (i : ℕ) → i < n → get_or w i 0 < set_bits

-- the place and the position are such
abbrev pub Within : ℕ → Option Move → Type 0
Within n None = Unit {0}
Within n (Some m) = (m.place.0 < n) × (m.position.0 < set_bits)

-- moving there, with all after it chosen afresh, gives the reading after w
abbrev pub Moved : Pattern → List ℕ → List ℕ → Option Move → Type 0
Moved P name w None = next_reading P name w ≡ none
Moved P name w (Some m) =
    T (readable P (drop (suc m.place.0) name) m.position.0)
    × (next_reading P name w ≡ some (take m.place.0 w ++ m.position.0 ∷ chosen P (drop (suc m.place.0) name) m.position.0))

-- w became v, the reading after it; or there is none
abbrev pub Advanced : Pattern → List ℕ → List ℕ → List ℕ → Bool → Type 0
Advanced P name w v true = next_reading P name w ≡ some v
Advanced P name w v false = next_reading P name w ≡ none
