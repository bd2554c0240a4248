use Rattle.sheet.proofs.Weighed.{Passing}
use Rattle.sheet.proofs.waiting.counts_right.Given as goal

-- As long as some subtree waits after every node, the sum counts what waits and the leaves; so one comparison at the end tells all.
abbrev pub invariant-loop-byte : goal.invariant-loop-byte
invariant-loop-byte l =
    Passing l.nodes l.byte-index l.sum l.least
