use Rattle.choices.proofs.Onward.{Tried, Still}
use Rattle.mapping.specs.Entries.{entry_values, given}
use Rattle.rows.specs.Rows.{row_at}
use Rattle.rows.specs.Filled.{FilledFor}
use Rattle.bits.specs.Sets.{set_bits, has, row_has}
use Rattle.language.specs.Reading.{Pattern}
use Rattle.std.specs.Prelude.{None}
use lib.ListN.{get_or}
use Prim.Native.Nat.{◌-◌, ◌<◌}
use mathlib.Core.Path.{◌≡◌}
use Rattle.choices.proofs.last_move.Given as goal

-- Inside, later positions of one place, none of which does; outside, places from the right, none of which can move.
abbrev pub invariant-positions : goal.invariant-positions
invariant-positions l = record {
  before : l.before.0 < set_bits;
  within : l.entry.0 < entry_values;
  none : l.found ≡ None;
  tried : Tried (row_has (row_at l.rows.work.now l.i)) (has l.rows.tables.now.follow l.before.0) (get_or (given l.rows.name.now l.mapping) l.i 0) l.entry.0;
}

abbrev pub decreases-positions : goal.decreases-positions
decreases-positions l =
    entry_values - l.entry.0

abbrev pub invariant-search : goal.invariant-search
invariant-search l = record {
  none : l.found ≡ None;
  still : (P : Pattern) → FilledFor P l.rows → Still P l.rows.name.now (given l.rows.name.now l.mapping) l.i;
}
