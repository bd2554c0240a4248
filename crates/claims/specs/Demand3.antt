-- DEMAND 3. "Asking for the first reading and then for the next lists every reading once, in rising dictionary order, then says 'no more'.
-- What the work area held never matters."
use Rattle.std.specs.Prelude.{◌≡◌, List, [], ◌∷◌, ℕ, ◌*◌, ◌≤◌, length}
use Rattle.std.proofs.Math.Option.{none, some}
use Rattle.rules.specs.Limits.{name_limit, area_for, filled}
use Rattle.rules.specs.Numbers.{done, no}
use Rattle.mapping.specs.Entries.{entry_size, stored, given}
use Rattle.language.specs.Reading.{Pattern}
use Rattle.language.specs.Listing.{Whole}
use Rattle.sheet.specs.Refusals.{sheet_refusal}
use Rattle.sheet.specs.Stands.{stands_for}
use Rattle.reader.specs.Outcome.{End, FirstCall, NextCall}

-- the buffers are long enough for the name; what they hold plays no part
pub record Enough (name mapping work : List ℕ) : Type 0 where
  pub mapped : entry_size * length name ≤ length mapping
  pub area : area_for name ≤ length work

-- the reading r is given: it and zeros fill the mapping, from where next and check read it again
pub record Gives (name mapping r : List ℕ) (s : End) : Type 0 where
  pub number : s.number ≡ done
  pub buffer : s.mapping ≡ filled mapping (stored r)
  pub again : given name s.mapping ≡ r

-- asking for the next, in any buffers that are long enough and hold the reading just given, gives these and then says "no more"
abbrev pub GoesOn : List ℕ → List ℕ → List ℕ → List (List ℕ) → Type 0
GoesOn sheet name r [] =
    (mapping work : List ℕ) (s : End) → Enough name mapping work → given name mapping ≡ r → NextCall sheet name mapping work s → s.number ≡ no
GoesOn sheet name r (q ∷ qs) =
    ((mapping work : List ℕ) (s : End) → Enough name mapping work → given name mapping ≡ r → NextCall sheet name mapping work s → Gives name mapping q s)
    × GoesOn sheet name q qs

-- asking for the first and then for the next gives these
abbrev pub Asking : List ℕ → List ℕ → List (List ℕ) → Type 0
Asking sheet name [] = (mapping work : List ℕ) (s : End) → Enough name mapping work → FirstCall sheet name mapping work s → s.number ≡ no
Asking sheet name (r ∷ rs) =
    ((mapping work : List ℕ) (s : End) → Enough name mapping work → FirstCall sheet name mapping work s → Gives name mapping r s)
    × GoesOn sheet name r rs

-- one finite list, which asking gives: every reading, each once, rising
abbrev pub Demand3 : Type 0
Demand3 =
    (sheet name : List ℕ) (P : Pattern) → sheet_refusal sheet ≡ none → length name ≤ name_limit → stands_for sheet ≡ some P
    → (rs : List (List ℕ)) × Asking sheet name rs × Whole P name rs
