-- What the four name calls answer and leave: all that was lent at entry against number, second number, mapping and work area at the end.
use Rattle.std.specs.Prelude.{◌≡◌, List, [], ◌++◌, ℕ, drop, replicate}
use Rattle.std.proofs.Math.Option.{some}
use Rattle.rules.specs.Limits.{area_for, wiped, filled}
use Rattle.rules.specs.Numbers.{done, no, no_reading}
use Rattle.rules.specs.Grounds.{first_of, Call}
use Rattle.mapping.specs.Entries.{stored, given}
use Rattle.language.specs.Reading.{Pattern, Language, Reading}
use Rattle.language.specs.Order.{FirstReading, NoReading, NextReading, NoMore}
use Rattle.sheet.specs.Stands.{stands_for}
use Rattle.reader.specs.Refusals.{mapping_grounds, accept_grounds}

pub record End : Type 0 where
  pub number : ℕ
  pub second : ℕ
  pub mapping : List ℕ
  pub work : List ℕ

-- "Answers 20 to 32 leave the area unchanged."
abbrev pub refused_with : List ℕ → List ℕ → ℕ → End
refused_with mapping work k = record { number = k; second = 0; mapping = mapping; work = work }

-- "Answers 0, 1 and 33 leave those rows zero and the rest unchanged."
abbrev pub cleared : List ℕ → List ℕ → List ℕ
cleared name work = replicate (area_for name) 0 ++ drop (area_for name) work

abbrev pub answered_with : List ℕ → List ℕ → ℕ → List ℕ → End
answered_with name work k mapping = record { number = k; second = 0; mapping = mapping; work = cleared name work }

-- ACCEPT has no mapping; its end is given with an empty one
pub data AcceptWent (sheet name work : List ℕ) : End → Type 0 where
  accepted : {P : Pattern} → stands_for sheet ≡ some P → Language P name
      → AcceptWent sheet name work (answered_with name work done [])
  not_in : {P : Pattern} → stands_for sheet ≡ some P → (Language P name → ⊥)
      → AcceptWent sheet name work (answered_with name work no [])

abbrev pub AcceptCall : List ℕ → List ℕ → List ℕ → End → Type 0
AcceptCall sheet name work = Call (first_of (accept_grounds sheet name work)) (refused_with [] work) (AcceptWent sheet name work)

-- FIRST
pub data FirstWent (sheet name mapping work : List ℕ) : End → Type 0 where
  found : {P : Pattern} {r : List ℕ} → stands_for sheet ≡ some P → FirstReading P name r
      → FirstWent sheet name mapping work (answered_with name work done (filled mapping (stored r)))
  absent : {P : Pattern} → stands_for sheet ≡ some P → NoReading P name
      → FirstWent sheet name mapping work (answered_with name work no (wiped mapping))

abbrev pub FirstCall : List ℕ → List ℕ → List ℕ → List ℕ → End → Type 0
FirstCall sheet name mapping work =
    Call (first_of (mapping_grounds sheet name mapping work)) (refused_with (wiped mapping) work) (FirstWent sheet name mapping work)

-- NEXT
pub data NextWent (sheet name mapping work : List ℕ) : End → Type 0 where
  found_next : {P : Pattern} {r : List ℕ} → stands_for sheet ≡ some P → Reading P name (given name mapping)
      → NextReading P name (given name mapping) r
      → NextWent sheet name mapping work (answered_with name work done (filled mapping (stored r)))
  no_more : {P : Pattern} → stands_for sheet ≡ some P → Reading P name (given name mapping) → NoMore P name (given name mapping)
      → NextWent sheet name mapping work (answered_with name work no (wiped mapping))
  unread : {P : Pattern} → stands_for sheet ≡ some P → (Reading P name (given name mapping) → ⊥)
      → NextWent sheet name mapping work (answered_with name work no_reading (wiped mapping))

abbrev pub NextCall : List ℕ → List ℕ → List ℕ → List ℕ → End → Type 0
NextCall sheet name mapping work =
    Call (first_of (mapping_grounds sheet name mapping work)) (refused_with (wiped mapping) work) (NextWent sheet name mapping work)

-- CHECK: "only reads its mapping, so it leaves all of it unchanged"
pub data CheckWent (sheet name mapping work : List ℕ) : End → Type 0 where
  right : {P : Pattern} → stands_for sheet ≡ some P → Reading P name (given name mapping)
      → CheckWent sheet name mapping work (answered_with name work done mapping)
  wrong : {P : Pattern} → stands_for sheet ≡ some P → (Reading P name (given name mapping) → ⊥)
      → CheckWent sheet name mapping work (answered_with name work no mapping)

abbrev pub CheckCall : List ℕ → List ℕ → List ℕ → List ℕ → End → Type 0
CheckCall sheet name mapping work =
    Call (first_of (mapping_grounds sheet name mapping work)) (refused_with mapping work) (CheckWent sheet name mapping work)
