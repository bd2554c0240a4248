use native.Mathlib.Omega.{arith}
use Rattle.std.proofs.Common.{rules}
use Rattle.automaton.proofs.Filled.{all_empty}
use Rattle.automaton.proofs.Tables.new.Goals as goal

pub returns : goal.returns
returns c = record {
  steps = all_empty 128 _ (search rules);
  letter = all_empty 127 _ (search rules);
  positions = omega arith;
  bytes = omega arith;
}
