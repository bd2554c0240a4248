use Rattle.std.proofs.Common.{◌≡◌, ◌≢◌, ℕ, ◌+◌, ◌-◌, true, List, arith, sym, ◌∙◌, drop}
use Rattle.lexer.specs.Bytes.{left_parenthesis, right_parenthesis}
use Rattle.lexer.specs.Tokens.{starts}
use Rattle.lexer.proofs.Front.{byte_inside}
use Rattle.text.specs.Reads.{state}
use Rattle.text.proofs.Parts.{alt_fails, at_end_lem, Opens, part_void, part_group, fails_group, fails_unclosed}
use Rattle.text.proofs.Readers.{past, void_onward}
use Rattle.text.proofs.+alternation_sequence_unit.Goals as goal

-- AN ALTERNATION
-- the sequence after a bar fails
pub alternation-returns-in_default-r : goal.alternation-returns-in_default-r
alternation-returns-in_default-r t c =
    rw c.in_default-r.is (alt_fails c.loop-text.invariant.part (sym c.is.ensures ∙ c.loop-text-test.true) c.in_default-r.field-0 c.in_default-r.ensures)

-- A UNIT
-- It is `()`, an alternation in parentheses, a literal, or the refusal of what stands there; the stars after it go on with it.
opened : (t : List ℕ) (d here : ℕ) → d ≢ 0 → starts (drop here t) left_parenthesis ≡ true → Opens t d (d - 1) here
opened t d here n e = record { deeper = omega arith; bracket = e }

-- the empty word: the parenthesis is closed at once
pub unit-returns-then-is-2 : goal.unit-returns-then-is-2
unit-returns-then-is-2 t c =
    let args = c.args in
    let opens = opened args.text.bytes.now args.allowed args.place c.if-allowed-eq0.false (sym c.is.ensures ∙ c.if-is.true) in
    let closed = sym c.is-then-is.ensures ∙ c.if-is-2.true in
    c.stars.ensures args.allowed (state args.place args.draft.now) (part_void opens closed c.node.ensures)
    (void_onward c.requires.begun (byte_inside args.text.bytes.now (args.place + 1) right_parenthesis closed) c.node.ensures)

-- the alternation in the parentheses fails
pub unit-returns-in_default : goal.unit-returns-in_default
unit-returns-in_default t c =
    let args = c.args in
    let opens = opened args.text.bytes.now args.allowed args.place c.if-allowed-eq0.false (sym c.is.ensures ∙ c.if-is.true) in
    rw c.in_default.is (fails_group opens (sym c.is-then-is.ensures ∙ c.if-is-2.false) c.in_default.field-0 c.in_default.ensures)

-- they are closed after it
pub unit-returns-then-is-3 : goal.unit-returns-then-is-3
unit-returns-then-is-3 t c =
    let args = c.args in
    let opens = opened args.text.bytes.now args.allowed args.place c.if-allowed-eq0.false (sym c.is.ensures ∙ c.if-is.true) in
    let inner = c.in-Ok.ensures in
    let closed = sym c.is-then-is-2.ensures ∙ c.if-is-3.true in
    c.stars-then-is-3.ensures args.allowed (state args.place args.draft.now) (part_group opens inner.part closed)
    (past inner.far (omega arith) (byte_inside args.text.bytes.now c.in-Ok.next right_parenthesis closed))

-- they are not: the text ends there
pub unit-returns-then-is : goal.unit-returns-then-is
unit-returns-then-is t c =
    let args = c.args in
    let opens = opened args.text.bytes.now args.allowed args.place c.if-allowed-eq0.false (sym c.is.ensures ∙ c.if-is.true) in
    let inner = c.in-Ok.ensures in
    let ended = at_end_lem args.text.bytes.now c.in-Ok.next inner.over (sym c.is-then-is-2.ensures ∙ c.if-is-3.false) in
    rw c.refused_at-then-is.ensures (fails_unclosed opens inner.part inner.far.inside ended)
