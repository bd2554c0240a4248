-- What a search over the tables of a sheet says of the pattern that the sheet stands for.
use mathlib.Core.Path.{◌≡◌}
use Rattle.std.specs.Prelude.{Ok}
use mathlib.Core.Bool.{Bool, true, false}
use mathlib.Core.Option.{some}
use mathlib.Core.List.{List}
use Prim.Native.Nat.{ℕ, ◌+◌}
use Rattle.language.specs.Tree.{size}
use Rattle.language.specs.Reading.{Pattern}
use Rattle.language.specs.Local.{Numbered}
use Rattle.language.specs.Search.{is_reading}
use Rattle.mapping.specs.Entries.{given}
use Rattle.rows.specs.declared.Rows.{Rows}
use Rattle.rows.specs.Rows.{RowsOf}
use Rattle.rows.specs.Filled.{FilledFor}
use Rattle.choices.specs.Moves.{Advanced}
use Rattle.reader.specs.Made.{NextMade}
use Rattle.sheet.specs.Stands.{stands_for}
use Rattle.sheet.proofs.Accepted.{standing}
use Rattle.automaton.specs.declared.Tables.{Tables}
use Rattle.automaton.specs.Tables.{Follows, Stops, Letters, TablesOf}

-- the rows that were filled from the tables of a pattern are its own
pub filled : {P : Pattern} {r : Rows} → TablesOf P r.tables.now
    → ((Q : Pattern) → Follows Q r.tables.now.follow → Stops Q r.tables.now.stops → Letters Q r.tables.now.letters → RowsOf Q r.name.now r.work.now)
    → FilledFor P r
filled {P} t rows = record { steps = t.steps; rows = rows P t.steps t.ends t.letter }

-- whether the given sequence is a reading
pub reading_told : (sheet : List ℕ) (tables : Tables) {r : Bool} {reads : Pattern → Bool}
    → ((P : Pattern) → stands_for sheet ≡ some P → TablesOf P tables)
    → ((P : Pattern) → Numbered 1 (1 + size P.tree) P.tree → Follows P tables.follow → Stops P tables.stops → Letters P tables.letters → r ≡ reads P)
    → (P : Pattern) → stands_for sheet ≡ some P → r ≡ reads P
reading_told sheet tables made told P x = let t = made P x in told P (standing sheet P x).numbered t.steps t.ends t.letter

-- what the search for the next reading came to
pub next_made : (P : Pattern) (name mapping after : List ℕ) (moved : Bool)
    → is_reading P name (given name mapping) ≡ true
    → Advanced P name (given name mapping) (given name after) moved
    → NextMade P name mapping after (Ok moved)
next_made P name mapping after true e a = (e, a)
next_made P name mapping after false e a = (e, a)
