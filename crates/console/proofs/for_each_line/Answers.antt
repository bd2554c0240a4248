use Rattle.std.proofs.Common.{rules, tests, ◌≡◌, [], refl, ◌==◌}
use Rattle.std.proofs.lemmas.Iterator.Splits.{YieldsList-from_slice_split}
use Rattle.std.specs.List.{slice_split}
use Rattle.std.specs.Result.{result_from_control_flow, IsErr, IsErrAnd}
use Rattle.console.specs.Lines.{lines}
use Rattle.console.proofs.Lines.{all_done, without, lines_some}
use Rattle.console.proofs.for_each_line.Goals as goal

pub returns-then-is_empty : goal.returns-then-is_empty
returns-then-is_empty g c =
    let none : lines c.args.input.now ≡ [] = search rules in
    rw none (c.args.f, refl)

pub returns : goal.returns
returns g c =
    let rest = c.unwrap_or-lines.result in
    let some : lines c.args.input.now ≡ slice_split (λ b. b == 10) rest.now = lines_some c.args.input.now _ (search (rules, tests))
    (without c.args.input.now c.strip_suffix.result rest c.args.input refl c.unwrap_or-lines.ensures c.strip_suffix.ensures.cases) in
    rw some (all_done _ _ (λ v c. v ≡ result_from_control_flow c) (λ e r. IsErr r × IsErrAnd r (λ f. f ≡ e.0)) (λ v e. e) (λ e i. i.1) _ _ _ _ _ c.try_for_each.ensures.ran
    (YieldsList-from_slice_split _ (λ b. b == 10) rest.now c.split.ensures.rest c.split.ensures.done c.split.ensures.closure (λ x r q k. search (rules, tests))))
