-- The rows of the work area: which positions the row of a place is to hold.
use Rattle.std.specs.Prelude.{◌≡◌, Bool, ◌&&◌, List, [], ℕ, suc, ◌*◌, ◌<◌, length, get_or, drop}
use Rattle.rules.specs.Limits.{row_size}
use Rattle.language.specs.Tree.{size}
use Rattle.language.specs.Reading.{Pattern}
use Rattle.language.specs.Follow.{stop}
use Rattle.language.specs.Search.{live, ok_in}
use Rattle.bits.specs.Sets.{row_has}
use Rattle.automaton.specs.Tables.{takes_at}

-- after p, the bytes can be read
abbrev pub readable : Pattern → List ℕ → ℕ → Bool
readable P bs p = live (ok_in P) (stop P.tree) (size P.tree) bs p

-- q takes the byte b, and after it the bytes bs can be read
abbrev pub can : Pattern → ℕ → List ℕ → ℕ → Bool
can P b bs q = takes_at P b q && readable P bs q

-- the front of `row` holds the positions that take b with bs still readable
abbrev pub Live : Pattern → ℕ → List ℕ → List ℕ → Type 0
Live P b bs row = (q : ℕ) → row_has row q ≡ can P b bs q

-- the front of `row` holds the positions that take b, after which a word may end
abbrev pub LastLive : Pattern → ℕ → List ℕ → Type 0
LastLive P b row = Live P b [] row

-- the part of the work area from a place's row on
abbrev pub row_at : List ℕ → ℕ → List ℕ
row_at work i = drop (row_size * i) work

-- the row of place i holds the positions that take the name's byte there with the rest of the name still readable
abbrev pub RowOf : Pattern → List ℕ → List ℕ → ℕ → Type 0
RowOf P name work i = Live P (get_or name i 0) (drop (suc i) name) (row_at work i)

abbrev pub RowsOf : Pattern → List ℕ → List ℕ → Type 0
RowsOf P name work = (i : ℕ) → i < length name → RowOf P name work i
