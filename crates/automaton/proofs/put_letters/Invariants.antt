use Rattle.automaton.specs.Walk.{LettersTo}
use Rattle.automaton.proofs.put_letters.Given as goal

-- Before each turn the positions up to i are in the sets of what they take.
abbrev pub invariant-loop-i : goal.invariant-loop-i
invariant-loop-i l = LettersTo l.sheet.bytes.now l.letters l.i
