use Rattle.reader.specs.Outcome.{NextCall}
use Rattle.satchelram.proofs.Small.{name_exports}
use Rattle.satchelram.proofs.satchelram_next.Goals as goal

pub returns : goal.returns
returns c =
    let g = c.args in
    name_exports (NextCall g.sheet.now g.name.now g.mapping.now g.work.now) c.next.result _ _ c.pack_answer.result c.pack_answer.ensures c.next.ensures
