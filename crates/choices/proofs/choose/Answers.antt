use Rattle.choices.proofs.Along.{along_turn, along_end}
use Rattle.choices.proofs.Picks.{start_below}
use Rattle.mapping.proofs.Entries.{entries-length}
use lib.ListN.{length}
use native.Mathlib.Omega.{arith}
use mathlib.Core.Path.{◌∙◌}
use Rattle.choices.proofs.choose.Goals as goal

pub loop-i-preserved : goal.loop-i-preserved
loop-i-preserved c =
    let loop = c.loop-i in
    let rows = c.args.rows.now in
    let n = length rows.name.now in
    let inside = c.loop-i-test.true in
    let put = c.put.ensures in record {
      within = rw c.unwrap_or-p.ensures (start_below c.choice.result c.choice.ensures.within);
      beside = put.rest n inside ∙ loop.invariant.beside;
      along = λ P f h.
          rw (put.there n inside)
          (along_turn (entries-length n loop.mapping (omega arith)) (loop.invariant.along P f h) rows.tables.now.follow rows.work.now c.choice.result f.steps
          (f.rows loop.i inside) inside c.choice.ensures.least c.unwrap_or-p.ensures);
    }

pub returns-clause-mapping_after : goal.returns-clause-mapping_after
returns-clause-mapping_after c P f h = along_end (entries-length _ c.loop-i.mapping (omega arith)) (c.loop-i.invariant.along P f h) (omega arith)
