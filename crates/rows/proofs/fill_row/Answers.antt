use Rattle.rows.proofs.Live.{live_step}
use Rattle.rows.proofs.Parts.{rest_of}
use Rattle.rules.specs.Limits.{row_size}
use lib.ListN.{drop}
use Rattle.rows.proofs.fill_row.Goals as goal

-- A position is live if it takes the byte and one of the row after it may come next.
pub returns-clause-live : goal.returns-clause-live
returns-clause-live c P b bs f l =
    let g = c.args in
    live_step P b bs g.tables.now.follow g.tables.now.letters c.taking.result c.load-after.result c.sift.result c.store.new.row (drop row_size g.row.now)
    g.byte f l c.taking.ensures (rw rest_of at c.load-after.ensures) c.sift.ensures c.store.ensures.members
