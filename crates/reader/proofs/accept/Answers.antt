use mathlib.Core.List.{[]}
use mathlib.Core.Path.{refl, sym}
use Rattle.rules.specs.Grounds.{answered}
use Rattle.reader.specs.Outcome.{refused_with}
use Rattle.reader.proofs.Ends.{refused_so, accept_went}
use Rattle.reader.proofs.accept.Goals as goal

pub returns-in_err-question : goal.returns-in_err-question
returns-in_err-question c =
    let work = c.args.work.now in
    refused_so c.from_residual.result (refused_with [] work) c.in_err-question.field-0.0 [] work
    c.in_err-question.ensures.reason c.from_residual.ensures.1 refl

pub returns : goal.returns
returns c =
    let q = c.in_ok-question.ensures in
    let inside = c.in_language-inside in
    rw c.wipe_rows.ensures
    (answered (sym q.reason) (accept_went q.same.0 q.same.1 [] _ _ (sym q.reason) inside.result inside.ensures.value inside.ensures.rest_unchanged))
