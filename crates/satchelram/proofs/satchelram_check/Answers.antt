use Rattle.reader.specs.Outcome.{CheckCall}
use Rattle.satchelram.proofs.Small.{name_exports}
use Rattle.satchelram.proofs.satchelram_check.Goals as goal

pub returns : goal.returns
returns c =
    let g = c.args in
    name_exports (CheckCall g.sheet.now g.name.now g.mapping.now g.work.now) c.check.result _ _ c.pack_answer.result c.pack_answer.ensures c.check.ensures
