-- Why a call over a sheet and a name is refused: the sheet's own grounds, then 30, 31 and 32, in document 01's order.
use Rattle.std.proofs.Math.Option.{Option}
use Rattle.std.specs.Prelude.{List, [], ◌∷◌, ◌++◌, ℕ, ◌*◌, ltb, length, Option as Lent, None, Some}
use Rattle.rules.specs.Limits.{name_limit, area_for}
use Rattle.rules.specs.Numbers.{name_long, mapping_short, work_short}
use Rattle.rules.specs.Grounds.{because}
use Rattle.mapping.specs.Entries.{entry_size}
use Rattle.sheet.specs.Refusals.{sheet_grounds}

-- 31 for n entries: there where a mapping is lent, of so many bytes, and not there where none is
abbrev pub lent_grounds : Lent ℕ → ℕ → List (Option ℕ)
lent_grounds None n = []
lent_grounds (Some size) n = because (ltb size (entry_size * n)) mapping_short ∷ []

-- 30, 31 and 32
abbrev pub name_grounds : List ℕ → Lent ℕ → List ℕ → List (Option ℕ)
name_grounds name lent work =
    because (ltb name_limit (length name)) name_long
    ∷ lent_grounds lent (length name)
    ++ because (ltb (length work) (area_for name)) work_short
    ∷ []

abbrev pub call_grounds : List ℕ → List ℕ → Lent ℕ → List ℕ → List (Option ℕ)
call_grounds sheet name lent work = sheet_grounds sheet ++ name_grounds name lent work

-- the calls that are lent a mapping: first, next and check
abbrev pub mapping_grounds : List ℕ → List ℕ → List ℕ → List ℕ → List (Option ℕ)
mapping_grounds sheet name mapping work = call_grounds sheet name (Some (length mapping)) work

-- "The acceptance call has no mapping buffer, so no 31."
abbrev pub accept_grounds : List ℕ → List ℕ → List ℕ → List (Option ℕ)
accept_grounds sheet name work = call_grounds sheet name None work
