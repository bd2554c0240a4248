use Rattle.choices.proofs.Along.{Along}
use Rattle.choices.specs.Moves.{chosen}
use Rattle.rows.specs.Rows.{readable}
use Rattle.rows.specs.Filled.{FilledFor}
use Rattle.bits.specs.Sets.{set_bits}
use Rattle.language.specs.Reading.{Pattern}
use Rattle.mapping.specs.Entries.{beyond, given}
use lib.ListN.{length, take, drop}
use lib.Dec.{T}
use Prim.Native.Nat.{◌<◌}
use mathlib.Core.List.{◌++◌}
use mathlib.Core.Path.{◌≡◌}
use Rattle.choices.proofs.choose.Given as goal

-- The entries before place i are chosen; with the choices still to come they are the whole.
abbrev pub invariant-loop-i : goal.invariant-loop-i
invariant-loop-i l = record {
  within : l.p.0 < set_bits;
  beside : beyond (length l.rows.name.now) l.mapping ≡ beyond (length l.rows.name.now) l.initial.mapping;
  along : (P : Pattern) → FilledFor P l.rows → T (readable P (drop l.fn.from.0 l.rows.name.now) l.fn.after.0)
      → Along P l.rows.name.now (take l.fn.from.0 (given l.rows.name.now l.initial.mapping) ++ chosen P (drop l.fn.from.0 l.rows.name.now) l.fn.after.0)
      (given l.rows.name.now l.mapping) l.i l.p.0;
}
