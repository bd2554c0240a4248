use Rattle.choices.proofs.Checked.{Followed}
use Rattle.choices.specs.Moves.{Small}
use Rattle.mapping.specs.Entries.{given}
use Rattle.automaton.specs.Tables.{Follows, Letters}
use Rattle.bits.specs.Sets.{set_bits}
use Rattle.language.specs.Reading.{Pattern}
use Rattle.language.specs.Local.{Numbered}
use Rattle.language.specs.Tree.{size}
use Prim.Native.Nat.{◌+◌, ◌<◌}
use Rattle.choices.proofs.is_reading.Given as goal

-- The entries are followed from the left: the test of what is left decides.
abbrev pub invariant-loop-i : goal.invariant-loop-i
invariant-loop-i l = record {
  within : l.p.0 < set_bits;
  small : Small l.i (given l.name l.mapping);
  followed : (P : Pattern) → Numbered 1 (1 + size P.tree) P.tree → Follows P l.tables.follow → Letters P l.tables.letters
      → Followed P l.name (given l.name l.mapping) l.i l.p.0;
}
