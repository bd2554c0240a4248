-- The stores are one run from the start, so that the sheet stands in front; the wipe leaves zeros after it.
use lib.Seq.{take-length}
use Rattle.sheet.proofs.Literals.{laid_filled}
use Rattle.sheet.proofs.form1.write.Goals as goal

pub returns : goal.returns
returns c =
    let whole = take-length c.args.literals.now in
    let nodes = take-length c.args.nodes.now in
    let wiped = rw (c.copy_in-2.ensures, c.copy_in.ensures, c.length_for-end.ensures, whole, nodes) at c.wipe_from.ensures in
    laid_filled c.args.sheet.now c.args.literals.now c.args.nodes.now c.requires.2 wiped
