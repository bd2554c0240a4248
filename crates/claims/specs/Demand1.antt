-- DEMAND 1. "Every text, sheet, name and buffer gets a definite answer. Each refusal has one number, given exactly when its condition is the
-- first to hold in document 01's order, and wipes the result buffer; the work area is left as document 01 fixes."
use Rattle.std.specs.Prelude.{◌≡◌, ◌↔◌, Bool, Result, List, [], ℕ, ◌≤◌, ◌<◌, length}
use Rattle.std.proofs.Math.Option.{Option, none, some}
use Rattle.rules.specs.Limits.{wiped}
use Rattle.rules.specs.Numbers.{done, text_long, sheet_short, repeat_fault, sheet_form, work_short}
use Rattle.rules.specs.Fault.{RefusedAs}
use Rattle.rules.specs.Grounds.{first_of}
use Rattle.language.specs.Tree.{Tree}
use Rattle.sheet.specs.Make.{sheet_of}
use Rattle.text.specs.Refusals.{text_refusal}
use Rattle.text.specs.Outcome.{SheetEnd, SheetCall, TreeOfText}
use Rattle.reader.specs.Refusals.{mapping_grounds, accept_grounds}
use Rattle.reader.specs.Answer.{number_of}
use Rattle.reader.specs.declared.NameFault.{NameFault}
use Rattle.reader.specs.Outcome.{End, cleared, AcceptCall, FirstCall, NextCall, CheckCall}

-- a definite answer: there is one, and any two are equal
pub record Definite {S : Type 0} (outcome : S → Type 0) : Type 0 where
  pub one : (s : S) × outcome s
  pub same : (s s' : S) → outcome s → outcome s' → s ≡ s'

-- a name call with these grounds, which leaves its mapping so when it is refused
pub record NameCall (grounds : List (Option ℕ)) (kept name work : List ℕ) (outcome : End → Type 0) : Type 0 where
  pub definite : Definite outcome
  pub exactly : (s : End) → outcome s → (k : ℕ) → sheet_form ≤ k → k ≤ work_short → (s.number ≡ k) ↔ (first_of grounds ≡ some k)
  pub keeps : (s : End) → outcome s → (k : ℕ) → first_of grounds ≡ some k → (s.mapping ≡ kept) × (s.work ≡ work)
  pub clears : (s : End) → outcome s → first_of grounds ≡ none → s.work ≡ cleared name work

-- the sheet call; 18 comes last, and asks for the length of the sheet
pub record TextCall (text buffer : List ℕ) : Type 0 where
  pub definite : Definite (SheetCall text buffer)
  pub exactly : (s : SheetEnd) → SheetCall text buffer s → (k i : ℕ) → text_long ≤ k → k ≤ repeat_fault → (k ≡ sheet_short → ⊥)
      → ((s.number ≡ k) × (s.second ≡ i)) ↔ RefusedAs (text_refusal text) k i
  pub short : (s : SheetEnd) → SheetCall text buffer s
      → (s.number ≡ sheet_short) ↔ ((text_refusal text ≡ none) × (t : Tree ℕ) × TreeOfText text t × (length buffer < length (sheet_of t)))
  pub wipes : (s : SheetEnd) → SheetCall text buffer s → (s.number ≡ done → ⊥) → s.sheet ≡ wiped buffer

pub record Demand1 : Type 0 where
  pub sheet : (text buffer : List ℕ) → TextCall text buffer
  pub accept : (sheet name work : List ℕ) → NameCall (accept_grounds sheet name work) [] name work (AcceptCall sheet name work)
  pub first : (sheet name mapping work : List ℕ) → NameCall (mapping_grounds sheet name mapping work) (wiped mapping) name work (FirstCall sheet name mapping work)
  pub next : (sheet name mapping work : List ℕ) → NameCall (mapping_grounds sheet name mapping work) (wiped mapping) name work (NextCall sheet name mapping work)
  pub check : (sheet name mapping work : List ℕ) → NameCall (mapping_grounds sheet name mapping work) mapping name work (CheckCall sheet name mapping work)
  -- no two answers of the name calls share a number, so that a definite number is a definite answer
  pub apart : (a b : Result Bool NameFault) → number_of a ≡ number_of b → a ≡ b
