use Rattle.std.proofs.Common.{◌≡◌, ◌-◌, ◌≤◌, length}
use Rattle.lexer.specs.Faults.{lexical}
use Rattle.lexer.specs.Tokens.{tokens_from}
use Rattle.lexer.proofs.Text.first_fault.Given as goal

-- the tokens from here on show the fault that all of them show
abbrev pub invariant-loop-at : goal.invariant-loop-at
invariant-loop-at l = record {
  same : lexical (tokens_from l.self.bytes.now l.at) ≡ lexical (tokens_from l.self.bytes.now 0);
  inside : l.at ≤ length l.self.bytes.now;
}

abbrev pub decreases-loop-at : goal.decreases-loop-at
decreases-loop-at l = length l.self.bytes.now - l.at
