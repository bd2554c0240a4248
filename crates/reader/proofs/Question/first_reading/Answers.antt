use Rattle.reader.proofs.Searches.{filled}
use Rattle.rows.proofs.Live.{T_true}
use mathlib.Core.Path.{sym, ◌∙◌}
use Rattle.reader.proofs.Question.first_reading.Goals as goal

-- Where the first row begins a reading, the choices from the start are the least one.
pub returns-then-begins-clause-first_made : goal.returns-then-begins-clause-first_made
returns-then-begins-clause-first_made c P x =
    let t = c.read.ensures P x in
    let f = filled t c.fill.ensures.rows_of in
    let inside = sym (c.begins.ensures P f t.ends) ∙ c.if-begins.true in
    (inside, c.choose.ensures.mapping_after P f (T_true _ inside))
