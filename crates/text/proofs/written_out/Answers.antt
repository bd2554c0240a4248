use Rattle.text.specs.Reads.{state}
use Rattle.text.proofs.Parts.{part_literal}
use Rattle.text.proofs.Readers.{begun, literal_onward}
use Rattle.text.proofs.written_out.Goals as goal

-- A literal is its copies; a fault ends the walk. The stars after it are read.
pub stars-requires : goal.stars-requires
stars-requires c = begun (literal_onward c.requires.begun c.in_ok-literal.ensures c.copies.ensures)

pub returns : goal.returns
returns c =
    λ d. c.stars.ensures d (state c.args.place c.args.draft.now) (part_literal c.in_ok-literal.ensures c.copies.ensures)
    (literal_onward c.requires.begun c.in_ok-literal.ensures c.copies.ensures)
