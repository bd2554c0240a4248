use Rattle.rows.proofs.Live.{begins_some}
use mathlib.Core.Path.{◌∙◌}
use borrow.Author.Rules.{rules}
use Rattle.rows.proofs.Rows.begins.Goals as goal

-- One of the first row may come at the start.
pub returns : goal.returns
returns c P f s =
    let rows = c.args.self.now in
    c.meets.ensures ∙ begins_some P rows.tables.now.follow c.live.result rows.name.now rows.work.now f.steps (search rules) f.rows c.live.ensures
