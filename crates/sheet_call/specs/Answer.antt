-- The number and the second number that an answer of the sheet call gives.
use Rattle.std.specs.Prelude.{List, ℕ, Result, Ok, Err}
use Rattle.rules.specs.Limits.{wiped}
use Rattle.rules.specs.Numbers.{done}
use Rattle.rules.specs.Fault.{Refusal, text_fault_number}
use Rattle.text.specs.Outcome.{SheetEnd, SheetCall}

abbrev pub sheet_end : Result ℕ Refusal → List ℕ → SheetEnd
sheet_end (Ok n) sheet = record { number = done; second = n; sheet = sheet }
sheet_end (Err f) sheet = record { number = text_fault_number f.fault; second = f.place; sheet = sheet }

-- the call before a refusal wipes the buffer
abbrev pub SheetTried : List ℕ → List ℕ → List ℕ → Result ℕ Refusal → Type 0
SheetTried text buffer after (Ok n) = SheetCall text buffer (sheet_end (Ok n) after)
SheetTried text buffer after (Err f) = SheetCall text buffer (sheet_end (Err f) (wiped buffer))
