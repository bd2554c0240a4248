use native.Mathlib.Omega.{arith}
use Rattle.bits.proofs.Least.{least-next, least-found}
use Rattle.bits.proofs.Set.least_from.Goals as goal

pub returns-in-Some : goal.returns-in-Some
returns-in-Some c = least-found c.args.self c.args.bound c.loop-i.i _ c.loop-i.invariant (omega arith) (omega arith) c.saturating_sub-below.ensures c.in-Some.b c.in-Some.ensures

pub loop-i-preserved : goal.loop-i-preserved
loop-i-preserved c = least-next c.args.self c.args.bound c.loop-i.i _ c.loop-i.invariant (omega arith) (omega arith) c.saturating_sub-below.ensures c.in_default.ensures
