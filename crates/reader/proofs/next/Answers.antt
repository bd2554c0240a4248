use mathlib.Core.Path.{refl, sym}
use native.Mathlib.Omega.{arith}
use Rattle.rules.specs.Grounds.{answered}
use Rattle.rules.specs.Limits.{wiped}
use Rattle.reader.specs.Outcome.{refused_with}
use Rattle.reader.proofs.Ends.{refused_so, next_went}
use Rattle.reader.proofs.next.Goals as goal

pub returns-in_err-asked : goal.returns-in_err-asked
returns-in_err-asked c =
    let work = c.args.work.now in
    refused_so c.from_residual.result (refused_with (wiped c.args.mapping.now) work) c.in_err-asked.field-0.0 c.to_search.new.mapping work
    c.in_err-asked.ensures.reason c.from_residual.ensures.1 (rw c.in_err-asked.ensures.refused refl)

pub returns : goal.returns
returns c =
    let q = c.in_ok-asked.ensures in
    let found = c.next_reading-found in
    rw (c.keep.ensures.0, c.keep.ensures.1)
    (answered (sym q.reason)
    (next_went q.same.0 q.same.1 c.args.mapping.now c.args.work.now _ (sym q.reason) _ (omega (arith, found.auto.mapping, c.to_search.auto.mapping))
    found.result (rw q.same.2 at found.ensures.next_made) found.ensures.rest_unchanged))
