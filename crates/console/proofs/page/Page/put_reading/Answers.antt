-- One entry more is put.
use Rattle.console.proofs.Puts.{puts_more}
use Rattle.console.proofs.Reading.{listed_more}
use Rattle.console.proofs.page.Page.put_reading.Goals as goal

pub loop-i-preserved : goal.loop-i-preserved
loop-i-preserved g c = rw listed_more (puts_more _ _ _ _ _ _ c.loop-i.invariant c.in_ok-put_entry.ensures)
