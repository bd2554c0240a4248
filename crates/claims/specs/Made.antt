-- WHAT A TEXT MAKES. "From an expression text it makes a stored sheet": the sheet is accepted, and its language is that of the expression.
use Rattle.std.specs.Prelude.{◌≡◌, ◌↔◌, List, ℕ}
use Rattle.std.proofs.Math.Option.{none, some}
use Rattle.rules.specs.Limits.{filled}
use Rattle.rules.specs.Numbers.{done}
use Rattle.language.specs.Tree.{Tree, Literally}
use Rattle.language.specs.Reading.{Language}
use Rattle.sheet.specs.Refusals.{sheet_refusal}
use Rattle.sheet.specs.Stands.{stands_for}
use Rattle.sheet.specs.Make.{sheet_of, pattern_of}
use Rattle.text.specs.Outcome.{SheetEnd, SheetCall, TreeOfText}

-- t is the expression's tree by the grammar; its words are the expression's language
pub record Means (text buffer : List ℕ) (s : SheetEnd) (t : Tree ℕ) : Type 0 where
  pub tree : TreeOfText text t
  pub filled_with : s.sheet ≡ filled buffer (sheet_of t)
  pub accepted : sheet_refusal (sheet_of t) ≡ none
  pub stands : stands_for (sheet_of t) ≡ some (pattern_of t)
  pub language : (name : List ℕ) → Literally t name ↔ Language (pattern_of t) name

abbrev pub MadeRight : Type 0
MadeRight = (text buffer : List ℕ) (s : SheetEnd) → SheetCall text buffer s → s.number ≡ done → (t : Tree ℕ) × Means text buffer s t
