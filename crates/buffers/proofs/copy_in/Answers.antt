use native.Mathlib.Omega.{arith}
use Prim.Native.Nat.{◌+◌, ◌-◌}
use lib.ListN.{take}
use lib.Seq.{length-take-le}
use Rattle.buffers.proofs.Stores.{stored}
use Rattle.buffers.proofs.copy_in.Goals as goal

pub returns : goal.returns
returns c =
    let g = c.args in
    let long = length-take-le g.n g.bytes.now c.requires.0 in
    rw c.copy_from_slice.ensures.after (stored g.at (g.at + g.n - g.at) g.buffer.now (take g.n g.bytes.now) (omega (arith, long)) (omega (arith, c.requires.1)))
