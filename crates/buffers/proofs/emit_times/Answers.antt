use mathlib.Core.Path.{◌≡◌}
use native.Mathlib.Omega.{arith}
use Prim.Native.Nat.{◌+◌}
use Rattle.buffers.proofs.Stores.{wrote_again, wrote_one}
use Rattle.buffers.proofs.emit_times.Goals as goal

pub loop-i-preserved : goal.loop-i-preserved
loop-i-preserved c =
    let e : c.args.n + c.loop-i.i + 1 ≡ c.args.n + (c.loop-i.i + 1) = omega arith in
    rw e at (wrote_again c.loop-i.i c.loop-i.invariant (wrote_one c.emit.ensures))
