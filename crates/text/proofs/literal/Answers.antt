use Rattle.std.proofs.Common.{sym, ◌∙◌}
use Rattle.lexer.proofs.Units.{plain_inside}
use Rattle.text.specs.Reads.{state}
use Rattle.text.proofs.Parts.{part_plain}
use Rattle.text.proofs.Readers.{plain_onward}
use Rattle.text.proofs.literal.Goals as goal

-- A plain byte is a leaf; the stars after it are read.
pub returns-then-plain_at : goal.returns-then-plain_at
returns-then-plain_at c =
    let args = c.args in
    let plain = sym c.plain_at.ensures ∙ c.if-plain_at.true in
    λ d. c.stars.ensures d (state args.place args.draft.now) (part_plain plain c.leaf.ensures)
    (plain_onward c.requires.begun (plain_inside args.text.bytes.now args.place plain) c.leaf.ensures)
