-- Every number and second number fits its room, and so a packed answer says what the call answered.
use mathlib.Core.Path.{◌≡◌, refl}
use mathlib.Core.List.{List}
use mathlib.Core.Bool.{Bool, true, false}
use Rattle.std.specs.Prelude.{Result, Ok, Err}
use Prim.Native.Nat.{ℕ, ◌<◌}
use native.Mathlib.Omega.{arith}
use Rattle.rules.specs.Grounds.{refused, answered}
use Rattle.sheet.specs.declared.SheetFault.{SheetFault}
use Rattle.sheet.specs.declared.SheetFault.TheVariants.{SheetForm, SheetLength, SheetLeaves, SheetByte, WaitingFew, WaitingEnd, WaitingMany, LeavesUnequal}
use Rattle.sheet.specs.Answer.{fault_number}
use Rattle.text.specs.Outcome.{SheetEnd, made, short, SheetCall}
use Rattle.text.proofs.Numbers.{text_number}
use Rattle.text.proofs.Places.{place_small, sheet_small}
use Rattle.reader.specs.Outcome.{End}
use Rattle.reader.specs.declared.NameFault.{NameFault}
use Rattle.reader.specs.declared.NameFault.TheVariants.{Sheet, NameLong, MappingShort, WorkShort, NoReading}
use Rattle.reader.specs.Answer.{number_of, end_of}
use Rattle.satchelram.specs.Packing.{number_room, second_room, packed, number_in, second_in}
use Rattle.satchelram.specs.Exported.{sheet_end_in, end_in, Exports}
use Rattle.satchelram.proofs.Packing.{unpacks}

pub record Fits (number second : ℕ) : Type 0 where
  pub low : number < number_room
  pub high : second < second_room

pub sheet-fits : (text buffer : List ℕ) (s : SheetEnd) → SheetCall text buffer s → Fits s.number s.second
sheet-fits text buffer s (refused {k = f} e) = record { low = omega (arith, (text_number text f e).high); high = omega (arith, place_small text f e) }
sheet-fits text buffer s (answered e (made {t = t} p h)) = record { low = omega arith; high = omega (arith, sheet_small text t e p) }
sheet-fits text buffer s (answered e (short {t = t} p h)) = record { low = omega arith; high = omega (arith, sheet_small text t e p) }

fault_small : (f : SheetFault) → fault_number f < number_room
fault_small SheetForm = omega arith
fault_small SheetLength = omega arith
fault_small SheetLeaves = omega arith
fault_small SheetByte = omega arith
fault_small WaitingFew = omega arith
fault_small WaitingEnd = omega arith
fault_small WaitingMany = omega arith
fault_small LeavesUnequal = omega arith

pub number_small : (a : Result Bool NameFault) → number_of a < number_room
number_small (Ok true) = omega arith
number_small (Ok false) = omega arith
number_small (Err (Sheet f)) = fault_small f
number_small (Err NameLong) = omega arith
number_small (Err MappingShort) = omega arith
number_small (Err WorkShort) = omega arith
number_small (Err NoReading) = omega arith

-- a packed answer exports the outcome that was packed
module _ (outcome : ℕ → ℕ → Type 0) (number second answer : ℕ) (fits : Fits number second) (e : answer ≡ packed number second 0) (goes : outcome number second) where
  pub exports : Exports (outcome (number_in answer) (second_in answer)) answer
  exports =
      let u = unpacks number second 0 fits.low fits.high in
      rw e (record { goes = rw (u.first, u.then) goes; whole = rw (u.first, u.then) refl })

-- a name call's answer, packed
pub name_exports : (call : End → Type 0) (a : Result Bool NameFault) (mapping work : List ℕ) (answer : ℕ) → answer ≡ packed (number_of a) 0 0 → call (end_of a mapping work)
    → Exports (call (end_in answer mapping work)) answer
name_exports call a mapping work answer e goes =
    exports (λ k i. call (record { number = k; second = i; mapping = mapping; work = work })) (number_of a) 0 answer (record { low = number_small a; high = omega arith }) e goes

-- the sheet call's answer: its parts fit, and packed they export it
pub sheet_exports : (text buffer : List ℕ) (s : SheetEnd) {answer : ℕ} → SheetCall text buffer s → answer ≡ packed s.number s.second 0
    → Exports (SheetCall text buffer (sheet_end_in answer s.sheet)) answer
sheet_exports text buffer s {answer} goes e =
    exports (λ k i. SheetCall text buffer (record { number = k; second = i; sheet = s.sheet })) s.number s.second answer (sheet-fits text buffer s goes) e goes
