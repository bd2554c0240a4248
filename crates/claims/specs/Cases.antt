-- What a case of document 01 says: its kinds, and when each holds of the definitions.
use Rattle.std.specs.Prelude.{◌≡◌, List, [], ◌∷◌, ℕ}
use Rattle.std.proofs.Math.Option.{none, some}
use Prim.Native.String.{String, [] as noText, ◌∷◌ as ◌then◌}
use Prim.Native.Char.{code}
use Rattle.rules.specs.Fault.{RefusedAs}
use Rattle.rules.specs.Grounds.{first_of}
use Rattle.language.specs.Tree.{Tree}
use Rattle.language.specs.Reading.{Pattern}
use Rattle.language.specs.Listing.{Listing}
use Rattle.sheet.specs.Refusals.{sheet_refusal}
use Rattle.sheet.specs.Stands.{stands_for}
use Rattle.sheet.specs.Make.{postorder, sheet_of}
use Rattle.text.specs.Refusals.{text_refusal}
use Rattle.text.specs.Outcome.{TreeOfText}
use Rattle.reader.specs.Refusals.{mapping_grounds}

-- the bytes of a quoted text
abbrev pub bytes : String → List ℕ
bytes noText = []
bytes (c then s) = code c ∷ bytes s

-- the text is not refused, and t is its tree
pub record Parsed (text : List ℕ) (t : Tree ℕ) : Type 0 where
  pub fine : text_refusal text ≡ none
  pub tree : TreeOfText text t

pub data Case : Type 0 where
  -- the text makes this sheet; a sheet with these nodes; some sheet
  makes has_nodes : List ℕ → List ℕ → Case
  is_made : List ℕ → Case
  -- the name has these readings, from the first to the last
  reads : List ℕ → List ℕ → List (List ℕ) → Case
  -- the text is refused with this number at this place; the sheet, or a call with a sheet, name, mapping and work area, with this number
  refused : List ℕ → ℕ → ℕ → Case
  bad_sheet : List ℕ → ℕ → Case
  bad_call : List ℕ → List ℕ → List ℕ → List ℕ → ℕ → Case

abbrev pub Holds : Case → Type 0
Holds (makes text sheet) = (t : Tree ℕ) × Parsed text t × (sheet_of t ≡ sheet)
Holds (has_nodes text nodes) = (t : Tree ℕ) × Parsed text t × (postorder t ≡ nodes)
Holds (is_made text) = (t : Tree ℕ) × Parsed text t
Holds (reads text name rs) = (t : Tree ℕ) × Parsed text t × (P : Pattern) × (stands_for (sheet_of t) ≡ some P) × Listing P name rs
Holds (refused text k i) = RefusedAs (text_refusal text) k i
Holds (bad_sheet sheet k) = sheet_refusal sheet ≡ some k
Holds (bad_call sheet name mapping work k) = first_of (mapping_grounds sheet name mapping work) ≡ some k

abbrev pub AllHold : List Case → Type 0
AllHold [] = Unit {0}
AllHold (c ∷ cs) = Holds c × AllHold cs
