use Rattle.std.proofs.Common.{sym}
use Rattle.lexer.proofs.Repeats.{repeat_good, repeat_bad}
use Rattle.lexer.proofs.Text.braced.Goals as goal

pub returns-then-not-closes : goal.returns-then-not-closes
returns-then-not-closes c = repeat_bad _ _ c.requires c.in_ok-x.ensures c.in_ok-y.ensures (sym c.if-not-closes.ensures)

pub returns : goal.returns
returns c = repeat_good _ _ c.requires c.in_ok-x.ensures c.in_ok-y.ensures c.args.byte (sym c.if-not-closes.ensures)
