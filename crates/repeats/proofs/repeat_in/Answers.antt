use Prim.Native.Nat.{◌-◌}
use mathlib.Core.Path.{◌≡◌}
use native.Mathlib.Omega.{arith}
use Rattle.buffers.proofs.Stores.{wrote_one, wrote_as}
use Rattle.repeats.proofs.Copies.{copy-short, joined-short, joined-copies, copied_on}
use Rattle.repeats.proofs.repeat_in.Goals as goal

pub option-m-requires-in-loop-i : goal.option-m-requires-in-loop-i
option-m-requires-in-loop-i c = omega (arith, (c.loop-i.invariant 0).count, joined-short 0 c.args.x (c.loop-i.i - 1))

pub overflow_add-m : goal.overflow_add-m
overflow_add-m c = omega (arith, (c.loop-i.invariant 0).count, joined-short 0 c.args.x (c.loop-i.i - 1), (c.option-m-in-loop-i.ensures 0).count, copy-short)

pub loop-i-preserved : goal.loop-i-preserved
loop-i-preserved c =
    λ b. copied_on b c.args.x c.loop-i.i (omega arith) (c.loop-i.invariant b) (c.option-m-in-loop-i.ensures b) (wrote_one (rw c.byte-in-loop-i.ensures at c.emit-in-loop-i.ensures))

pub returns : goal.returns
returns c =
    let all : c.loop-i.i ≡ c.args.y = omega arith in
    λ b. wrote_as (joined-copies b c.args.x c.args.y c.requires.1 c.if-y-eq0.false) (rw all at (c.loop-i.invariant b))
