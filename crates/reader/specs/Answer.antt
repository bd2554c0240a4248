-- The number of document 01 for each answer of the name calls, and the end that an answer makes.
use Rattle.std.specs.Prelude.{Bool, true, false, List, ℕ, Result, Ok, Err}
use Rattle.rules.specs.Numbers.{done, no, name_long, mapping_short, work_short, no_reading}
use Rattle.sheet.specs.Answer.{fault_number}
use Rattle.reader.specs.Outcome.{End}
use Rattle.reader.specs.declared.NameFault.{NameFault}
use Rattle.reader.specs.declared.NameFault.TheVariants.{Sheet, NameLong, MappingShort, WorkShort, NoReading}

-- why a call is refused
abbrev pub refusal_number : NameFault → ℕ
refusal_number (Sheet f) = fault_number f
refusal_number NameLong = name_long
refusal_number MappingShort = mapping_short
refusal_number WorkShort = work_short
refusal_number NoReading = no_reading

-- accepted, found, yes; not so; or why the call is refused
abbrev pub number_of : Result Bool NameFault → ℕ
number_of (Ok true) = done
number_of (Ok false) = no
number_of (Err f) = refusal_number f

-- the end of a call that answers so and leaves these bytes
abbrev pub end_of : Result Bool NameFault → List ℕ → List ℕ → End
end_of answer mapping work = record { number = number_of answer; second = 0; mapping = mapping; work = work }
