use Rattle.rows.proofs.Live.{RowsFrom}
use Rattle.automaton.specs.Tables.{Follows, Stops, Letters}
use Rattle.rows.specs.Rows.{row_at}
use Rattle.language.specs.Reading.{Pattern}
use lib.ListN.{length}
use mathlib.Core.Path.{◌≡◌}
use Rattle.rows.proofs.fill.Given as goal

-- The rows from place i on are filled; each turn fills the row before them from the first of them.
abbrev pub invariant-loop-i : goal.invariant-loop-i
invariant-loop-i l = record {
  rows : (P : Pattern) → Follows P l.tables.follow → Stops P l.tables.stops → Letters P l.tables.letters → RowsFrom P l.name l.work l.i;
  rest_unchanged : row_at l.work (length l.name) ≡ row_at l.fn.work (length l.name);
}
