use native.Mathlib.Omega.{arith}
use Rattle.std.proofs.Math.Nat.{min-le_left, min-le_right}
use Rattle.sheet.proofs.Weighed.{passing_on, passing-right}
use Rattle.sheet.proofs.waiting.counts_right.Goals as goal

pub loop-byte-preserved : goal.loop-byte-preserved
loop-byte-preserved c =
    passing_on c.loop-byte.invariant (omega arith) c.requires.0 (c.weight.ensures.0 _ c.from.ensures) c.weight.ensures.1
    (rw c.min-least.ensures (min-le_left _ _)) (rw c.min-least.ensures (min-le_right _ _))

pub returns-then-least : goal.returns-then-least
returns-then-least c = passing-right c.loop-byte.invariant c.args.promised (omega arith) c.requires.0 c.requires.1 c.if-least.true
