use mathlib.Core.Path.{refl, sym}
use Rattle.rules.specs.Grounds.{answered}
use Rattle.reader.specs.Outcome.{refused_with}
use Rattle.reader.proofs.Ends.{refused_so, check_went}
use Rattle.reader.proofs.check.Goals as goal

pub returns-in_err-question : goal.returns-in_err-question
returns-in_err-question c =
    let g = c.args in
    refused_so c.from_residual.result (refused_with g.mapping.now g.work.now) c.in_err-question.field-0.0 g.mapping.now g.work.now
    c.in_err-question.ensures.reason c.from_residual.ensures.1 refl

pub returns : goal.returns
returns c =
    let q = c.in_ok-question.ensures in
    let work = c.args.work.now in
    rw c.wipe_rows.ensures
    (answered (sym q.reason)
    (check_went q.same.0 q.same.1 c.args.mapping.now work work (sym q.reason) c.given_reading-reads.result c.given_reading-reads.ensures))
