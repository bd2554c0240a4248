use Rattle.reader.specs.Outcome.{AcceptCall}
use Rattle.satchelram.proofs.Small.{name_exports}
use Rattle.satchelram.proofs.satchelram_accept.Goals as goal

pub returns : goal.returns
returns c =
    let g = c.args in
    name_exports (AcceptCall g.sheet.now g.name.now g.work.now) c.accept.result _ _ c.pack_answer.result c.pack_answer.ensures c.accept.ensures
