use Rattle.reader.proofs.Searches.{filled, reading_told, next_made}
use mathlib.Core.Path.{refl, sym, ◌∙◌}
use Rattle.reader.proofs.Question.next_reading.Goals as goal

-- The sequence is no reading; below, it is one, and it moves or it does not.
pub returns-then-not-is_reading-clause-next_made : goal.returns-then-not-is_reading-clause-next_made
returns-then-not-is_reading-clause-next_made c P x =
    (refl, sym (reading_told c.args.self.sheet.bytes.now c.read.new.self c.read.ensures c.is_reading.ensures.value P x) ∙ c.if-not-is_reading.true)

pub returns-clause-next_made : goal.returns-clause-next_made
returns-clause-next_made c P x =
    let t = c.read.ensures P x in
    let moved = c.advance-moved in
    let told = reading_told c.args.self.sheet.bytes.now c.read.new.self c.read.ensures c.is_reading.ensures.value P x in
    next_made P c.args.self.name.now c.args.mapping.now moved.new.mapping moved.result
    (sym told ∙ c.if-not-is_reading.false) (moved.ensures.advanced P (filled t c.fill.ensures.rows_of))
