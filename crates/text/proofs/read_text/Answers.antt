use Rattle.std.proofs.Common.{sym}
use Rattle.text.proofs.Parts.{at_end_lem, found_end}
use Rattle.text.proofs.read_text.Goals as goal

pub returns : goal.returns
returns c =
    let read = c.in_ok-place.ensures in
    record {
      made = _;
      found = found_end read.part (at_end_lem c.args.text.bytes.now c.in_ok-place.place read.over (sym c.if-is.ensures));
      from = _;
      fresh = c.new-draft.ensures;
      stored = read.part.stored;
    }
