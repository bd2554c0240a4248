-- What the sheet call answers and leaves: text and sheet buffer at entry against number, second number and the buffer at the end.
use Rattle.std.specs.Prelude.{List, ℕ, ◌<◌, ◌≤◌, length}
use Rattle.rules.specs.Limits.{open_limit, wiped, filled}
use Rattle.rules.specs.Numbers.{done, sheet_short}
use Rattle.rules.specs.Fault.{Refusal, text_fault_number}
use Rattle.rules.specs.Grounds.{Call}
use Rattle.language.specs.Tree.{Tree}
use Rattle.sheet.specs.Make.{sheet_of}
use Rattle.lexer.specs.Tokens.{tokens_from}
use Rattle.text.specs.Grammar.{Parses, alternation}
use Rattle.text.specs.Refusals.{text_refusal}

pub record SheetEnd : Type 0 where
  pub number : ℕ
  pub second : ℕ
  pub sheet : List ℕ

-- t is the tree of the text
abbrev pub TreeOfText : List ℕ → Tree ℕ → Type 0
TreeOfText text = Parses open_limit alternation (tokens_from text 0)

-- the tree is found: its sheet is made, or the buffer is too short for it
pub data SheetWent (text buffer : List ℕ) : SheetEnd → Type 0 where
  made : {t : Tree ℕ} → TreeOfText text t → length (sheet_of t) ≤ length buffer
      → SheetWent text buffer (record { number = done; second = length (sheet_of t); sheet = filled buffer (sheet_of t) })
  short : {t : Tree ℕ} → TreeOfText text t → length buffer < length (sheet_of t)
      → SheetWent text buffer (record { number = sheet_short; second = length (sheet_of t); sheet = wiped buffer })

-- a refusal answers its place, and wipes the buffer
abbrev pub sheet_kept : List ℕ → Refusal → SheetEnd
sheet_kept buffer f = record { number = text_fault_number f.fault; second = f.place; sheet = wiped buffer }

abbrev pub SheetCall : List ℕ → List ℕ → SheetEnd → Type 0
SheetCall text buffer = Call (text_refusal text) (sheet_kept buffer) (SheetWent text buffer)
