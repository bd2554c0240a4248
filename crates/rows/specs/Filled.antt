-- Rows that are filled, as one value.
use Rattle.language.specs.Reading.{Pattern}
use Rattle.automaton.specs.Tables.{Follows}
use Rattle.rows.specs.Rows.{RowsOf}
use Rattle.rows.specs.declared.Rows.{Rows}

-- the rows are those of a pattern, and so is what may follow what
pub record FilledFor (P : Pattern) (r : Rows) : Type 0 where
  pub steps : Follows P r.tables.now.follow
  pub rows : RowsOf P r.name.now r.work.now
