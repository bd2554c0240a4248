use Rattle.std.proofs.Common.{◌≡◌, false, ℕ, ◌+◌, ◌-◌, ◌*◌, List, length, drop}
use Rattle.lexer.specs.Bytes.{asterisk}
use Rattle.lexer.specs.Tokens.{starts}
use Rattle.lexer.specs.Places.{unit_at}
use Rattle.text.specs.Reads.{state, Onward, SeqPart, AltPart}
use Rattle.text.proofs.+alternation_sequence_unit.Given as goal

-- The three readers call each other on less: on less text, on fewer parentheses, or a part of what they read.
-- the text left and the parentheses allowed
abbrev left : List ℕ → ℕ → ℕ → ℕ
left text from allowed = length text - from + allowed

abbrev pub decreases-alternation : goal.decreases-alternation
decreases-alternation l = 3 * left l.text.bytes.now l.from l.allowed + 2

abbrev pub decreases-sequence : goal.decreases-sequence
decreases-sequence l = 3 * left l.text.bytes.now l.from l.allowed + 1

abbrev pub decreases-unit : goal.decreases-unit
decreases-unit l = 3 * left l.text.bytes.now l.place l.allowed

-- An alternation, turn by turn: the sequences read so far.
abbrev pub invariant-alternation-loop-text : goal.invariant-alternation-loop-text
invariant-alternation-loop-text l = record {
  part : AltPart l.text.bytes.now l.allowed (state l.from l.fn.draft) (state l.place l.draft);
  unstarred : starts (drop l.place l.text.bytes.now) asterisk ≡ false;
  over : unit_at (drop l.place l.text.bytes.now) ≡ false;
  far : Onward (length l.text.bytes.now) (state l.from l.fn.draft) (state l.place l.draft) 0;
}

abbrev pub decreases-alternation-loop-text : goal.decreases-alternation-loop-text
decreases-alternation-loop-text l = length l.text.bytes.now - l.place

-- A sequence, turn by turn: the units read so far.
abbrev pub invariant-sequence-loop-text : goal.invariant-sequence-loop-text
invariant-sequence-loop-text l = record {
  part : SeqPart l.text.bytes.now l.allowed (state l.from l.fn.draft) (state l.place l.draft);
  unstarred : starts (drop l.place l.text.bytes.now) asterisk ≡ false;
  far : Onward (length l.text.bytes.now) (state l.from l.fn.draft) (state l.place l.draft) 1;
}

abbrev pub decreases-sequence-loop-text : goal.decreases-sequence-loop-text
decreases-sequence-loop-text l = length l.text.bytes.now - l.place
