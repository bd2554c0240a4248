-- What an exported call answers: the outcome of the call whose number and second are packed in the answer; the third is 0.
use Rattle.std.specs.Prelude.{◌≡◌, List, ℕ}
use Rattle.text.specs.Outcome.{SheetEnd}
use Rattle.reader.specs.Outcome.{End}
use Rattle.satchelram.specs.Packing.{packed, number_in, second_in}

-- the end that an answer packs, with what the buffers hold
abbrev pub sheet_end_in : ℕ → List ℕ → SheetEnd
sheet_end_in answer sheet = record { number = number_in answer; second = second_in answer; sheet = sheet }

abbrev pub end_in : ℕ → List ℕ → List ℕ → End
end_in answer mapping work = record { number = number_in answer; second = second_in answer; mapping = mapping; work = work }

-- nothing else is packed
pub record Exports (outcome : Type 0) (answer : ℕ) : Type 0 where
  pub goes : outcome
  pub whole : answer ≡ packed (number_in answer) (second_in answer) 0
