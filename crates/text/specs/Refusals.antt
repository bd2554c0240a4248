-- Why a text is refused, 10 to 17 and 19, in document 01's order, a line a walk; 18 comes after them and asks for the sheet's length.
use Rattle.std.proofs.Math.Option.{Option, none, some}
use Rattle.std.specs.Prelude.{List, [], ◌∷◌, ℕ, ltb, length}
use Rattle.rules.specs.Limits.{text_limit, node_limit}
use Rattle.rules.specs.declared.TextFault.TheVariants.{TextLong, NodesMany}
use Rattle.rules.specs.Fault.{Refusal, at}
use Rattle.rules.specs.Grounds.{because, first_of}
use Rattle.sheet.specs.Make.{postorder}
use Rattle.lexer.specs.Tokens.{tokens_from}
use Rattle.lexer.specs.Faults.{lexical, passing}
use Rattle.text.specs.Walk.{Answer, tree, fault, parse}

-- 12 to 15: the fault of the walk
abbrev pub grammatical : Answer → Option Refusal
grammatical (tree t) = none
grammatical (fault f) = some f

-- 17: more nodes than the limit; e: the text's length
abbrev pub too_big : ℕ → Answer → Option Refusal
too_big e (tree t) = because (ltb node_limit (length (postorder t))) (at e NodesMany)
too_big e (fault f) = none

abbrev pub text_grounds : List ℕ → List (Option Refusal)
text_grounds text =
    because (ltb text_limit (length text)) (at text_limit TextLong)
    ∷ lexical (tokens_from text 0)
    ∷ grammatical (parse text)
    ∷ passing 0 (tokens_from text 0)
    ∷ too_big (length text) (parse text)
    ∷ []

abbrev pub text_refusal : List ℕ → Option Refusal
text_refusal text = first_of (text_grounds text)
