-- The walk over tokens that finds the tree, or the first of the faults 12 to 15 with its place.
use Rattle.std.proofs.Math.Option.{Option, none, some}
use Rattle.std.specs.Prelude.{List, [], ◌∷◌, ℕ, zero, suc, length}
use Rattle.language.specs.Tree.{Tree, empty, cat, alt, star}
use Rattle.rules.specs.Limits.{open_limit}
use Rattle.rules.specs.Fault.{Refusal, at}
use Rattle.rules.specs.declared.TextFault.TheVariants.{OperandMissing, CloseUnopened, OpenUnclosed, OpenDeep}
use Rattle.lexer.specs.Tokens.{a_literal, a_bar, a_star, an_open, a_close, a_fault, Placed, placed, tokens_from}
use Rattle.repeats.specs.Copies.{copies}

-- what was read since the innermost open parenthesis, after the alternation a before the last bar, if there is one:
-- nothing yet, or the unit u after the sequence s, if there is one
pub data Frame : Type 0 where
  begin : Option (Tree ℕ) → Frame
  going : Option (Tree ℕ) → Option (Tree ℕ) → Tree ℕ → Frame

abbrev pub after : (Tree ℕ → Tree ℕ → Tree ℕ) → Option (Tree ℕ) → Tree ℕ → Tree ℕ
after f none t = t
after f (some r) t = f r t

-- the tree of all that was read in a frame
abbrev pub value : Option (Tree ℕ) → Option (Tree ℕ) → Tree ℕ → Tree ℕ
value a s u = after alt a (after cat s u)

-- the frame with one unit more
abbrev pub put : Tree ℕ → Frame → Frame
put t (begin a) = going a none t
put t (going a s u) = going a (some (after cat s u)) t

pub data Answer : Type 0 where
  tree : Tree ℕ → Answer
  fault : Refusal → Answer

-- e: the text's length; d: how many more parentheses may be opened; the frame being read, and those of the open parentheses
abbrev pub run : ℕ → ℕ → List Placed → Frame → List Frame → Answer
run e d [] (begin a) [] = fault (at e OperandMissing)
run e d [] (going a s u) [] = tree (value a s u)
run e d [] f (g ∷ gs) = fault (at e OpenUnclosed)
run e d (placed i (a_literal b x y) ∷ ps) f gs = run e d ps (put (copies b x y) f) gs
run e d (placed i a_star ∷ ps) (begin a) gs = fault (at i OperandMissing)
run e d (placed i a_star ∷ ps) (going a s u) gs = run e d ps (going a s (star u)) gs
run e d (placed i a_bar ∷ ps) (begin a) gs = fault (at i OperandMissing)
run e d (placed i a_bar ∷ ps) (going a s u) gs = run e d ps (begin (some (value a s u))) gs
run e zero (placed i an_open ∷ ps) f gs = fault (at i OpenDeep)
run e (suc d) (placed i an_open ∷ ps) f gs = run e d ps (begin none) (f ∷ gs)
run e d (placed i a_close ∷ ps) f [] = fault (at i CloseUnopened)
run e d (placed i a_close ∷ ps) (begin none) (g ∷ gs) = run e (suc d) ps (put empty g) gs
run e d (placed i a_close ∷ ps) (begin (some r)) (g ∷ gs) = fault (at i OperandMissing)
run e d (placed i a_close ∷ ps) (going a s u) (g ∷ gs) = run e (suc d) ps (put (value a s u) g) gs
run e d (placed i (a_fault k) ∷ ps) f gs = fault (at i k)

-- the walk over a whole text
abbrev pub parse : List ℕ → Answer
parse text = run (length text) open_limit (tokens_from text 0) (begin none) []
