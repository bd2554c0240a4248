use mathlib.Core.Path.{refl}
use native.Mathlib.Omega.{arith}
use Rattle.automaton.proofs.Filled.{walkable, finished}
use Rattle.automaton.proofs.Tables.read.Goals as goal

pub walk-whole-requires-clause-one_tree : goal.walk-whole-requires-clause-one_tree
walk-whole-requires-clause-one_tree c = walkable c.args.sheet.bytes.now _ c.args.sheet.accepted c.nodes.ensures

pub walk-whole-requires-clause-table : goal.walk-whole-requires-clause-table
walk-whole-requires-clause-table c = (c.requires.positions, c.requires.steps)

pub put_letters-requires : goal.put_letters-requires
put_letters-requires c = (c.requires.letter, c.requires.bytes)

pub returns : goal.returns
returns c =
    finished c.args.sheet.bytes.now c.walk-whole.new.follow c.walk-whole.result _ c.args.sheet.accepted (omega (arith, c.requires.positions, c.walk-whole.auto.follow))
    (rw c.nodes.ensures at c.walk-whole.ensures) refl refl c.put_letters.ensures
