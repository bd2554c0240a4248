-- How a reading is shown.
use Rattle.std.specs.Prelude.{ℕ, List, [], ◌∷◌, map, get_or, decimal, ◌==◌, if◌then◌else◌}
use Rattle.std.specs.List.{join_by, range_with_len}
use Rattle.rules.specs.Limits.{name_limit}
use Rattle.mapping.specs.Entries.{entries}

-- entry i of a mapping, or 0 where it has none
abbrev pub entry_or_none : List ℕ → ℕ → ℕ
entry_or_none mapping i = get_or (entries name_limit mapping) i 0

-- an entry in decimal, with a comma before it unless it is the first
abbrev pub entry_shown : ℕ → List ℕ → List ℕ
entry_shown i mapping = if i == 0 then decimal (entry_or_none mapping i) else 44 ∷ decimal (entry_or_none mapping i)

-- the first n entries
abbrev pub first_entries : ℕ → List ℕ → List ℕ
first_entries n mapping = map (entry_or_none mapping) (range_with_len 0 n)

-- numbers in decimal, with commas between them
abbrev pub listed : List ℕ → List ℕ
listed numbers = join_by decimal (44 ∷ []) numbers

-- a reading in decimal; `-` for an empty one
abbrev pub shown : List ℕ → List ℕ
shown [] = 45 ∷ []
shown (q ∷ qs) = listed (q ∷ qs)
