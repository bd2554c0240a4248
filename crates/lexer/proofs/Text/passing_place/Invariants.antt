use Rattle.std.proofs.Common.{◌≡◌, ◌-◌, ◌≤◌, length}
use Rattle.rules.specs.Limits.{leaf_limit}
use Rattle.lexer.specs.Faults.{passing}
use Rattle.lexer.specs.Tokens.{tokens_from}
use Rattle.lexer.proofs.Text.passing_place.Given as goal

-- the leaves pass the limit from here on, so many of them counted, where they pass it from the start
abbrev pub invariant-loop-at : goal.invariant-loop-at
invariant-loop-at l = record {
  same : passing l.leaves (tokens_from l.self.bytes.now l.at) ≡ passing 0 (tokens_from l.self.bytes.now 0);
  inside : l.at ≤ length l.self.bytes.now;
  few : l.leaves ≤ leaf_limit;
}

abbrev pub decreases-loop-at : goal.decreases-loop-at
decreases-loop-at l = length l.self.bytes.now - l.at
