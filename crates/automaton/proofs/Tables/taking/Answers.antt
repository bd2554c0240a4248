use mathlib.Core.Path.{refl}
use native.Mathlib.Omega.{arith}
use Rattle.automaton.proofs.Filled.{looked_up}
use Rattle.automaton.proofs.Tables.taking.Goals as goal

pub returns : goal.returns
returns c =
    let found = c.get-own.ensures.lookup in
    looked_up c.args.self.now.letters c.args.byte c.get-own.result c.unwrap_or.result _ (omega arith)
    (rw c.from.ensures at found.0) (rw c.from.ensures at found.1) refl c.unwrap_or.ensures
