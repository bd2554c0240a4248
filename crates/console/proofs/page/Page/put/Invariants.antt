use Rattle.std.proofs.Common.{take}
use Rattle.console.specs.Page.{Puts}
use Rattle.console.proofs.page.Page.put.Given as goal

abbrev pub invariant-loop-byte : goal.invariant-loop-byte
invariant-loop-byte g l = Puts g.W.Write.contents l.initial.self l.self (take l.byte-index l.bytes)
