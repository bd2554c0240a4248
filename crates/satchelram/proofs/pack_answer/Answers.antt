use native.Mathlib.Omega.{arith}
use Rattle.satchelram.proofs.Small.{number_small}
use Rattle.satchelram.proofs.pack_answer.Goals as goal

pub pack-requires : goal.pack-requires
pack-requires c = (rw c.number.ensures (number_small c.args.answer), omega arith)
