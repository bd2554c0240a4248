use Rattle.reader.specs.Outcome.{FirstCall}
use Rattle.satchelram.proofs.Small.{name_exports}
use Rattle.satchelram.proofs.satchelram_first.Goals as goal

pub returns : goal.returns
returns c =
    let g = c.args in
    name_exports (FirstCall g.sheet.now g.name.now g.mapping.now g.work.now) c.first.result _ _ c.pack_answer.result c.pack_answer.ensures c.first.ensures
