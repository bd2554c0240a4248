use Rattle.reader.proofs.Tests.{sheet_refused, sheet_passed, refused_as}
use Rattle.reader.specs.Refusals.{name_grounds}
use Rattle.reader.proofs.Question.tested.Goals as goal

-- The sheet's refusal comes first; then those of the name.
pub returns-in_err-sheet-clause-reason : goal.returns-in_err-sheet-clause-reason
returns-in_err-sheet-clause-reason c =
    let g = c.args in
    sheet_refused g.sheet.now (name_grounds g.name.now g.lent g.work.now) c.from_residual.result c.in_err-sheet.field-0.0
    c.from_residual.ensures.1 c.in_err-sheet.ensures.refusal

pub returns-in_err-name_test-clause-reason : goal.returns-in_err-name_test-clause-reason
returns-in_err-name_test-clause-reason c =
    let g = c.args in
    sheet_passed g.sheet.now (name_grounds g.name.now g.lent g.work.now) c.in_ok-sheet.ensures.refusal
    (refused_as _ _ c.from_residual-in_err-name_test.ensures.1 c.in_err-name_test.ensures)

pub returns-clause-reason : goal.returns-clause-reason
returns-clause-reason c =
    let g = c.args in
    sheet_passed g.sheet.now (name_grounds g.name.now g.lent g.work.now) c.in_ok-sheet.ensures.refusal c.in_ok-name_test.ensures
