-- Why a text is refused: a fault and a place (with 18 the length needed), as one record from the lexer to the export.
use Rattle.std.specs.Prelude.{◌≡◌, ℕ}
use Rattle.std.proofs.Math.Option.{Option, some}
use Rattle.rules.specs.Numbers.{text_long, text_byte, operand_missing, close_unopened, open_unclosed, open_deep, leaves_many, nodes_many, sheet_short, repeat_fault}
use Rattle.rules.specs.declared.TextFault.{TextFault}
use Rattle.rules.specs.declared.TextFault.TheVariants.{TextLong, TextByte, OperandMissing, CloseUnopened, OpenUnclosed, OpenDeep, LeavesMany, NodesMany, SheetShort, RepeatFault}
use Rattle.rules.specs.declared.RefusalBy.{RefusalBy}

-- the number of a fault
abbrev pub text_fault_number : TextFault → ℕ
text_fault_number TextLong = text_long
text_fault_number TextByte = text_byte
text_fault_number OperandMissing = operand_missing
text_fault_number CloseUnopened = close_unopened
text_fault_number OpenUnclosed = open_unclosed
text_fault_number OpenDeep = open_deep
text_fault_number LeavesMany = leaves_many
text_fault_number NodesMany = nodes_many
text_fault_number SheetShort = sheet_short
text_fault_number RepeatFault = repeat_fault

-- the refusal of a text
abbrev pub Refusal : Type 0
Refusal = RefusalBy TextFault

-- refused at a place for a fault, whatever says it
abbrev pub at : {F : Type 0} → ℕ → F → RefusalBy F
at i f = record { fault = f; place = i }

-- the refusal that has this number and this place
abbrev pub RefusedAs : Option Refusal → ℕ → ℕ → Type 0
RefusedAs o k i = (f : TextFault) × (text_fault_number f ≡ k) × (o ≡ some (at i f))
