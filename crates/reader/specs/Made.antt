-- What the steps inside the calls come to: the tests before a search, and the searches over an accepted sheet.
use Rattle.std.specs.Prelude.{◌≡◌, Bool, true, false, List, ℕ, ◌*◌, ltb, Option as Lent, None, Some, Result, Ok, Err}
use Rattle.std.proofs.Math.Option.{Option, none, some}
use Rattle.rules.specs.Limits.{filled}
use Rattle.mapping.specs.Entries.{entry_size, stored, entries, given}
use Rattle.language.specs.Reading.{Pattern}
use Rattle.language.specs.Search.{accepts, first_reading, is_reading, next_reading}
use Rattle.reader.specs.Answer.{refusal_number}
use Rattle.reader.specs.declared.NameFault.{NameFault}
use Rattle.reader.specs.declared.NameFault.TheVariants.{NoReading}

-- a mapping of so many bytes is lent, and has no room for n entries
abbrev pub lacks : Lent ℕ → ℕ → Bool
lacks None n = false
lacks (Some size) n = ltb size (entry_size * n)

-- why a call is refused, if it is
abbrev pub reason_of : {A : Type 0} → Result A NameFault → Option ℕ
reason_of (Ok _) = none
reason_of (Err f) = some (refusal_number f)

-- the mapping became `after`: the first reading was written, or there is none
abbrev pub FirstMade : Pattern → List ℕ → List ℕ → Bool → Type 0
FirstMade P name after true = (accepts P name ≡ true) × (given name after ≡ first_reading P name)
FirstMade P name after false = accepts P name ≡ false

-- the given sequence became the next reading; there is none; it is no reading
abbrev pub NextMade : Pattern → List ℕ → List ℕ → List ℕ → Result Bool NameFault → Type 0
NextMade P name mapping after (Ok true) = (is_reading P name (given name mapping) ≡ true) × (next_reading P name (given name mapping) ≡ some (given name after))
NextMade P name mapping after (Ok false) = (is_reading P name (given name mapping) ≡ true) × (next_reading P name (given name mapping) ≡ none)
NextMade P name mapping after (Err f) = (f ≡ NoReading) × (is_reading P name (given name mapping) ≡ false)

-- how many of n entries stay in the mapping, and what is left there: those and zeros
abbrev pub kept_by : Result Bool NameFault → ℕ → ℕ
kept_by (Ok true) n = n
kept_by (Ok false) n = 0
kept_by (Err f) n = 0

abbrev pub left_by : Result Bool NameFault → ℕ → List ℕ → List ℕ
left_by r n mapping = filled mapping (stored (entries (kept_by r n) mapping))
