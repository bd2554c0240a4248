-- The lines of an input, and that each was handed on.
use Rattle.std.specs.Prelude.{◌-◌, ℕ, List, [], ◌∷◌, length, take, drop, ◌==◌, if◌then◌else◌, Result, Ok}
use Rattle.std.specs.List.{slice_split, FoldsTo}
use Rattle.std.specs.Str.{bytes_eq}
use Rattle.std.specs.Fn.{Mut, CalledAt}
use denote.Ref.{Bor}

-- an input without the line feed at its end
abbrev pub without_end : List ℕ → List ℕ
without_end bytes = if bytes_eq (drop (length bytes - 1) bytes) (10 ∷ []) then take (length bytes - 1) bytes else bytes

-- the lines, without their line feeds: the last may have none, and an empty input has no lines
abbrev pub lines : List ℕ → List (List ℕ)
lines bytes = if length bytes == 0 then [] else slice_split (λ b. b == 10) (without_end bytes)

-- f was called on each of these lines, in order, and answered `Ok` each time
abbrev pub DoneOn : {F E : Type 0} → Mut F (Bor (List ℕ) × Unit {0}) (Result (Unit {0}) E) → F → List (List ℕ) → Type 0
DoneOn {F} g f all = (last : F) × FoldsTo (λ before line after. CalledAt g before line (Ok tt) after) f all last
