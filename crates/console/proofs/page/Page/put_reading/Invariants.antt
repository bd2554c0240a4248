use Rattle.console.specs.Page.{Puts}
use Rattle.console.specs.Reading.{first_entries, listed}
use Rattle.console.proofs.page.Page.put_reading.Given as goal

abbrev pub invariant-loop-i : goal.invariant-loop-i
invariant-loop-i g l = Puts g.W.Write.contents l.initial.self l.self (listed (first_entries l.i l.mapping))
