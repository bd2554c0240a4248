-- The refusals that the tokens of a text show by themselves: 11 and 19, and the place of 16.
use Rattle.std.specs.Prelude.{cond, List, [], ◌∷◌, ℕ, ◌+◌, ltb}
use Rattle.std.proofs.Math.Option.{Option, none, some}
use Rattle.rules.specs.Limits.{leaf_limit}
use Rattle.rules.specs.declared.TextFault.TheVariants.{LeavesMany}
use Rattle.rules.specs.Fault.{Refusal, at}
use Rattle.lexer.specs.Tokens.{Token, a_literal, a_bar, a_star, an_open, a_close, a_fault, Placed, placed}

-- 11 and 19: the first fault among the tokens
abbrev pub lexical : List Placed → Option Refusal
lexical [] = none
lexical (placed i (a_fault k) ∷ ps) = some (at i k)
lexical (placed i (a_literal b x y) ∷ ps) = lexical ps
lexical (placed i a_bar ∷ ps) = lexical ps
lexical (placed i a_star ∷ ps) = lexical ps
lexical (placed i an_open ∷ ps) = lexical ps
lexical (placed i a_close ∷ ps) = lexical ps

-- the leaves that a token stands for: a literal has a leaf for each copy
abbrev pub leaves_of : Token → ℕ
leaves_of (a_literal b x y) = y
leaves_of a_bar = 0
leaves_of a_star = 0
leaves_of an_open = 0
leaves_of a_close = 0
leaves_of (a_fault k) = 0

-- 16: the place of the literal whose leaves pass the limit, after n leaves
abbrev pub passing : ℕ → List Placed → Option Refusal
passing n [] = none
passing n (placed i t ∷ ps) = cond (ltb leaf_limit (n + leaves_of t)) (some (at i LeavesMany)) (passing (n + leaves_of t) ps)
