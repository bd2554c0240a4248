use mathlib.Core.Path.{ap, ◌∙◌}
use native.Mathlib.Omega.{arith}
use lib.ListN.{length}
use Rattle.bits.proofs.Bytes.{got}
use Rattle.bits.proofs.get_word.Goals as goal

pub returns : goal.returns
returns c =
    let bytes = c.unwrap.result in
    let whole = rw c.unwrap.ensures at c.try_from-bytes.ensures.1 in
    got c.args.row.now bytes c.args.at _ (ap length whole.same ∙ whole.long) whole.same (omega arith)
    c.from_le_bytes.result (λ i. (c.type_inv.row i).fits) c.from_le_bytes.ensures
