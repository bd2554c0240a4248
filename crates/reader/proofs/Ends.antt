-- From what the tests and the searches found to the ends of the calls.
use mathlib.Core.Path.{◌≡◌, refl, sym}
use mathlib.Core.Bool.{Bool, true, false}
use mathlib.Core.Option.{Option, none, some}
use mathlib.Core.List.{List, []}
use Rattle.std.specs.Prelude.{None, Some, Result, Ok, Err}
use Rattle.std.specs.Result.{IsErrAnd}
use Rattle.std.proofs.lemmas.Result.{err_from_is_err_and}
use Prim.Native.Nat.{ℕ, ◌+◌, ◌*◌}
use native.Mathlib.Omega.{arith}
use lib.ListN.{length}
use lib.Seq.{drop-drop}
use Rattle.rules.specs.Limits.{row_size, area_for, wiped, filled}
use Rattle.rules.specs.Grounds.{first_of, Call, refused}
use Rattle.mapping.specs.Entries.{stored, given}
use Rattle.mapping.proofs.Entries.{none_kept}
use Rattle.language.specs.Tree.{size}
use Rattle.language.specs.Local.{Numbered}
use Rattle.language.specs.Reading.{Pattern, Reading}
use Rattle.language.specs.Search.{accepts, is_reading}
use Rattle.language.proofs.Decides.{Decides, itself}
use Rattle.language.proofs.Search.{Next, moved, stuck}
use Rattle.language.proofs.Computed.{accepts_decides, reading_decides, first-right, first-none, next-right}
use Rattle.sheet.specs.Stands.{stands_for}
use Rattle.rows.specs.Rows.{row_at}
use Rattle.rows.proofs.Live.{T_true}
use Rattle.reader.specs.Outcome.{End, cleared, AcceptWent, accepted, not_in, FirstWent, found, absent}
use Rattle.reader.specs.Outcome.{NextWent, found_next, no_more, unread, CheckWent, right, wrong}
use Rattle.reader.specs.Answer.{refusal_number, end_of}
use Rattle.reader.specs.Made.{FirstMade, NextMade, left_by}
use Rattle.reader.specs.declared.NameFault.{NameFault}
use Rattle.reader.specs.Refusals.{mapping_grounds, accept_grounds}
use Rattle.reader.proofs.Settled.{pattern_of_lem}

-- what a test that decides it says of A
holds : {b : Bool} {A : Type 0} → Decides b A → b ≡ true → A
holds {b} d e = d.to (T_true b e)

fails : {b : Bool} {A : Type 0} → Decides b A → b ≡ false → A → ⊥
fails d e a = rw e at (d.from a)

-- A REFUSAL, as `?` returns it
pub refused_so : {g : Option ℕ} {went : End → Type 0} (r : Result Bool NameFault) (kept : ℕ → End) (f : NameFault) (mapping work : List ℕ)
    → some (refusal_number f) ≡ g → IsErrAnd r (λ e. e ≡ f) → kept (refusal_number f) ≡ end_of (Err f) mapping work → Call g kept went (end_of r mapping work)
refused_so r kept f mapping work e i k = let p = err_from_is_err_and r i in rw (p.1, p.2, ← k) (refused (sym e))

-- WHAT THE SEARCHES FOUND, over the pattern that the sheet stands for
module _ (sheet name mapping work : List ℕ) (P : Pattern) (x : stands_for sheet ≡ some P) (n : Numbered 1 (1 + size P.tree) P.tree) where
  accept_is : (b : Bool) → accepts P name ≡ b → AcceptWent sheet name work (end_of (Ok b) [] (cleared name work))
  accept_is true e = accepted x (holds (accepts_decides P n name) e)
  accept_is false e = not_in x (fails (accepts_decides P n name) e)

  first_is : (after : List ℕ) → length after ≡ length mapping → (b : Bool) → FirstMade P name after b
      → FirstWent sheet name mapping work (end_of (Ok b) (left_by (Ok b) (length name) after) (cleared name work))
  first_is after l true (a, e) = rw (e, l) (found x (first-right P n name (holds (itself (accepts P name)) a)))
  first_is after l false a = rw (none_kept, l) (absent x (first-none P n name (fails (itself (accepts P name)) a)))

  read_is : is_reading P name (given name mapping) ≡ true → Reading P name (given name mapping)
  read_is = holds (reading_decides P n name (given name mapping))

  not_read : is_reading P name (given name mapping) ≡ false → Reading P name (given name mapping) → ⊥
  not_read = fails (reading_decides P n name (given name mapping))

  there : Reading P name (given name mapping) → {v : List ℕ} → Next (Reading P name) (given name mapping) (some v)
      → NextWent sheet name mapping work (end_of (Ok true) (filled mapping (stored v)) (cleared name work))
  there g (moved m) = found_next x g m

  nowhere : Reading P name (given name mapping) → Next (Reading P name) (given name mapping) none
      → NextWent sheet name mapping work (end_of (Ok false) (wiped mapping) (cleared name work))
  nowhere g (stuck m) = no_more x g m

  next_is : (after : List ℕ) → length after ≡ length mapping → (r : Result Bool NameFault) → NextMade P name mapping after r
      → NextWent sheet name mapping work (end_of r (left_by r (length name) after) (cleared name work))
  next_is after l (Ok true) (a, m) = rw l (there (read_is a) (rw m at (next-right P n name (given name mapping) (read_is a))))
  next_is after l (Ok false) (a, m) = rw (none_kept, l) (nowhere (read_is a) (rw m at (next-right P n name (given name mapping) (read_is a))))
  next_is after l (Err f) (e, a) = rw (none_kept, l, e) (unread x (not_read a))

  check_is : (b : Bool) → is_reading P name (given name mapping) ≡ b → CheckWent sheet name mapping work (end_of (Ok b) mapping (cleared name work))
  check_is true e = right x (read_is e)
  check_is false e = wrong x (not_read e)

-- the rows were filled and then wiped
cleared-whole : (name work filled : List ℕ) → row_at filled (length name) ≡ row_at work (length name) → cleared name filled ≡ cleared name work
cleared-whole name work filled e =
    let d : area_for name ≡ row_size * length name + row_size = omega arith in
    rw (d, ← drop-drop row_size (row_size * length name) filled, ← drop-drop row_size (row_size * length name) work, e) refl

-- THE SEARCHES OF THE FOUR CALLS, over the sheet and the name of a question; the row after the name's is as it was
abbrev Same : List ℕ → List ℕ → List ℕ → Type 0
Same name work rows = row_at rows (length name) ≡ row_at work (length name)

module _ {sheet name bytes asked : List ℕ} (of_sheet : bytes ≡ sheet) (of_name : asked ≡ name) (mapping work rows : List ℕ) where
  whole : Same asked work rows → cleared name rows ≡ cleared name work
  whole same = cleared-whole name work rows (rw of_name at same)

  pub accept_went : first_of (accept_grounds sheet name work) ≡ none → (b : Bool)
      → ((P : Pattern) → stands_for bytes ≡ some P → b ≡ accepts P asked) → Same asked work rows
      → AcceptWent sheet name work (end_of (Ok b) [] (cleared asked rows))
  accept_went passed b is same =
      let (P, x, n) = pattern_of_lem sheet name None work passed in
      rw of_name (rw (whole same) (accept_is sheet name mapping work P x n b (sym ((rw (of_sheet, of_name) at is) P x))))

  module _ (passed : first_of (mapping_grounds sheet name mapping work) ≡ none) where
    pub check_went : (b : Bool) → ((P : Pattern) → stands_for bytes ≡ some P → b ≡ is_reading P asked (given asked mapping))
        → CheckWent sheet name mapping work (end_of (Ok b) mapping (cleared asked work))
    check_went b is =
        let (P, x, n) = pattern_of_lem sheet name (Some (length mapping)) work passed in
        rw of_name (check_is sheet name mapping work P x n b (sym ((rw (of_sheet, of_name) at is) P x)))

    module _ (after : List ℕ) (long : length after ≡ length mapping) where
      pub first_went : (b : Bool) → ((P : Pattern) → stands_for bytes ≡ some P → FirstMade P asked after b) → Same asked work rows
          → FirstWent sheet name mapping work (end_of (Ok b) (left_by (Ok b) (length asked) after) (cleared asked rows))
      first_went b made same =
          let (P, x, n) = pattern_of_lem sheet name (Some (length mapping)) work passed in
          rw of_name (rw (whole same) (first_is sheet name mapping work P x n after long b ((rw (of_sheet, of_name) at made) P x)))

      pub next_went : (r : Result Bool NameFault) → ((P : Pattern) → stands_for bytes ≡ some P → NextMade P asked mapping after r) → Same asked work rows
          → NextWent sheet name mapping work (end_of r (left_by r (length asked) after) (cleared asked rows))
      next_went r made same =
          let (P, x, n) = pattern_of_lem sheet name (Some (length mapping)) work passed in
          rw of_name (rw (whole same) (next_is sheet name mapping work P x n after long r ((rw (of_sheet, of_name) at made) P x)))
