-- DEMAND 2. "Where nothing is refused, a name is accepted exactly if it is in the language; a first reading is given exactly if one exists."
use Rattle.std.specs.Prelude.{◌≡◌, ◌↔◌, List, ℕ}
use Rattle.std.proofs.Math.Option.{none, some}
use Rattle.rules.specs.Limits.{wiped, filled}
use Rattle.rules.specs.Numbers.{done, no}
use Rattle.rules.specs.Grounds.{first_of}
use Rattle.mapping.specs.Entries.{stored}
use Rattle.language.specs.Reading.{Pattern, Language, Reading}
use Rattle.language.specs.Order.{FirstReading}
use Rattle.sheet.specs.Refusals.{sheet_refusal}
use Rattle.sheet.specs.Stands.{stands_for}
use Rattle.reader.specs.Refusals.{mapping_grounds, accept_grounds}
use Rattle.reader.specs.Outcome.{End, AcceptCall, FirstCall}

-- accept says 0 exactly if the name is in the language of what the sheet stands for, else 1
pub record Accepts (P : Pattern) (name : List ℕ) (s : End) : Type 0 where
  pub member : (s.number ≡ done) ↔ Language P name
  pub other : (s.number ≡ no) ↔ (Language P name → ⊥)

-- first says 0 exactly if there is a reading, and then leaves the least; else 1, and leaves nothing
pub record Finds (P : Pattern) (name mapping : List ℕ) (s : End) : Type 0 where
  pub exists : (s.number ≡ done) ↔ ((w : List ℕ) × Reading P name w)
  pub least : s.number ≡ done → (r : List ℕ) × FirstReading P name r × (s.mapping ≡ filled mapping (stored r))
  pub other : (s.number ≡ no) ↔ ((w : List ℕ) → Reading P name w → ⊥)
  pub wipes : s.number ≡ no → s.mapping ≡ wiped mapping

pub record Demand2 : Type 0 where
  -- a sheet that is not refused stands for a pattern
  pub stands : (sheet : List ℕ) → sheet_refusal sheet ≡ none → (P : Pattern) × (stands_for sheet ≡ some P)
  pub accept : (sheet name work : List ℕ) (P : Pattern) (s : End) → first_of (accept_grounds sheet name work) ≡ none → stands_for sheet ≡ some P
      → AcceptCall sheet name work s → Accepts P name s
  pub first : (sheet name mapping work : List ℕ) (P : Pattern) (s : End) → first_of (mapping_grounds sheet name mapping work) ≡ none → stands_for sheet ≡ some P
      → FirstCall sheet name mapping work s → Finds P name mapping s
