use Rattle.reader.proofs.Searches.{reading_told}
use Rattle.reader.proofs.Question.given_reading.Goals as goal

-- The tables are those of what the sheet stands for, and the entries are followed in them.
pub returns : goal.returns
returns c = reading_told c.args.self.sheet.bytes.now c.read.new.self c.read.ensures c.is_reading.ensures.value
