-- An answer is known by its number: no two answers share one.
use mathlib.Core.Path.{◌≡◌, refl, ap, sym, ◌∙◌}
use mathlib.Core.Bool.{Bool, true, false, cond}
use Rattle.std.specs.Prelude.{Result, Ok, Err}
use Prim.Native.Nat.{ℕ}
use lib.Dec.{eqb}
use Rattle.rules.specs.Numbers.{done, no, sheet_form, sheet_length, sheet_leaves, sheet_byte, waiting_few, waiting_end, waiting_many, leaves_unequal, name_long, mapping_short, work_short}
use Rattle.sheet.specs.declared.SheetFault.TheVariants.{SheetForm, SheetLength, SheetLeaves, SheetByte, WaitingFew, WaitingEnd, WaitingMany, LeavesUnequal}
use Rattle.reader.specs.Answer.{number_of}
use Rattle.reader.specs.declared.NameFault.{NameFault}
use Rattle.reader.specs.declared.NameFault.TheVariants.{Sheet, NameLong, MappingShort, WorkShort, NoReading}

abbrev answer_for : ℕ → Result Bool NameFault
answer_for n =
    cond (eqb n done) (Ok true)
    (cond (eqb n no) (Ok false)
    (cond (eqb n sheet_form) (Err (Sheet SheetForm))
    (cond (eqb n sheet_length) (Err (Sheet SheetLength))
    (cond (eqb n sheet_leaves) (Err (Sheet SheetLeaves))
    (cond (eqb n sheet_byte) (Err (Sheet SheetByte))
    (cond (eqb n waiting_few) (Err (Sheet WaitingFew))
    (cond (eqb n waiting_end) (Err (Sheet WaitingEnd))
    (cond (eqb n waiting_many) (Err (Sheet WaitingMany))
    (cond (eqb n leaves_unequal) (Err (Sheet LeavesUnequal))
    (cond (eqb n name_long) (Err NameLong)
    (cond (eqb n mapping_short) (Err MappingShort)
    (cond (eqb n work_short) (Err WorkShort) (Err NoReading)))))))))))))

back : (a : Result Bool NameFault) → answer_for (number_of a) ≡ a
back (Ok true) = refl
back (Ok false) = refl
back (Err (Sheet SheetForm)) = refl
back (Err (Sheet SheetLength)) = refl
back (Err (Sheet SheetLeaves)) = refl
back (Err (Sheet SheetByte)) = refl
back (Err (Sheet WaitingFew)) = refl
back (Err (Sheet WaitingEnd)) = refl
back (Err (Sheet WaitingMany)) = refl
back (Err (Sheet LeavesUnequal)) = refl
back (Err NameLong) = refl
back (Err MappingShort) = refl
back (Err WorkShort) = refl
back (Err NoReading) = refl

pub answer_known : (a b : Result Bool NameFault) → number_of a ≡ number_of b → a ≡ b
answer_known a b e = sym (back a) ∙ ap answer_for e ∙ back b
