-- The tests before a search, in document 01's order.
use mathlib.Core.Path.{◌≡◌, sym, ◌∙◌}
use mathlib.Core.Option.{Option, none, some}
use mathlib.Core.List.{List, ◌++◌}
use Rattle.std.specs.Prelude.{Result, Option as Lent, None, Some}
use Rattle.std.specs.Result.{IsErrAnd}
use Rattle.std.proofs.lemmas.Result.{err_from_is_err_and}
use Prim.Native.Nat.{ℕ, ◌*◌, ◌≤◌}
use lib.Dec.{ltb}
use lib.ListN.{length}
use borrow.Author.Tests.{ltb-false}
use Rattle.rules.specs.Limits.{name_limit, area_for}
use Rattle.rules.specs.Numbers.{name_long, mapping_short, work_short}
use Rattle.rules.specs.Grounds.{because, first_of}
use Rattle.rules.proofs.Grounds.{Passed, passed, not_because, first_part, later_part, front_part}
use Rattle.sheet.specs.Answer.{fault_number}
use Rattle.sheet.specs.Refusals.{sheet_grounds, sheet_refusal}
use Rattle.sheet.specs.declared.SheetFault.{SheetFault}
use Rattle.reader.specs.Refusals.{name_grounds, call_grounds}
use Rattle.mapping.specs.Entries.{entry_size}
use Rattle.reader.specs.declared.NameFault.{NameFault}
use Rattle.reader.specs.declared.NameFault.TheVariants.{Sheet}
use Rattle.reader.specs.Answer.{refusal_number}
use Rattle.reader.specs.Made.{reason_of}

-- why a call is refused, as `?` returns it
pub refused_as : {A : Type 0} {g : Option ℕ} (r : Result A NameFault) (f : NameFault) → IsErrAnd r (λ e. e ≡ f) → some (refusal_number f) ≡ g → reason_of r ≡ g
refused_as r f i e = let p = err_from_is_err_and r i in rw (p.1, p.2) e

module _ (sheet : List ℕ) (gs : List (Option ℕ)) where
  -- the sheet's own refusal comes first
  pub sheet_refused : {A : Type 0} (r : Result A NameFault) (f : SheetFault) → IsErrAnd r (λ e. e ≡ Sheet f) → some (fault_number f) ≡ sheet_refusal sheet
      → reason_of r ≡ first_of (sheet_grounds sheet ++ gs)
  sheet_refused r f i e = refused_as r (Sheet f) i (sym (first_part (sheet_grounds sheet) gs (fault_number f) (sym e)))

  -- then the others
  pub sheet_passed : {r : Option ℕ} → none ≡ sheet_refusal sheet → r ≡ first_of gs → r ≡ first_of (sheet_grounds sheet ++ gs)
  sheet_passed e f = f ∙ sym (later_part (sheet_grounds sheet) gs (sym e))

-- what is lent for a mapping, if anything is, has room for n entries
abbrev pub Held : Lent ℕ → ℕ → Type 0
Held None n = Unit {0}
Held (Some size) n = entry_size * n ≤ size

-- what holds of a call that passed
pub record Fit (sheet name : List ℕ) (lent : Lent ℕ) (work : List ℕ) : Type 0 where
  pub passed : first_of (call_grounds sheet name lent work) ≡ none
  pub accepted : sheet_refusal sheet ≡ none
  pub short : length name ≤ name_limit
  pub held : Held lent (length name)
  pub room : area_for name ≤ length work

-- a ground `a < b` that does not hold
not_less : (a b k : ℕ) → because (ltb a b) k ≡ none → b ≤ a
not_less a b k e = ltb-false a b (not_because (ltb a b) k e)

name_passed : (name : List ℕ) (lent : Lent ℕ) (work : List ℕ) → Passed (name_grounds name lent work)
    → (length name ≤ name_limit) × Held lent (length name) × (area_for name ≤ length work)
name_passed name None work (p, (r, u)) = (not_less name_limit (length name) name_long p, tt, not_less (length work) (area_for name) work_short r)
name_passed name (Some size) work (p, (q, (r, u))) =
    (not_less name_limit (length name) name_long p, not_less size (entry_size * length name) mapping_short q, not_less (length work) (area_for name) work_short r)

pub grounds_fit : {sheet name : List ℕ} {lent : Lent ℕ} {work : List ℕ} → first_of (call_grounds sheet name lent work) ≡ none → Fit sheet name lent work
grounds_fit {sheet} {name} {lent} {work} e =
    let a = front_part (sheet_grounds sheet) (name_grounds name lent work) e in
    let (short, held, room) = name_passed name lent work (passed (name_grounds name lent work) (sym (later_part (sheet_grounds sheet) (name_grounds name lent work) a) ∙ e)) in
    record { passed = e; accepted = a; short = short; held = held; room = room }
