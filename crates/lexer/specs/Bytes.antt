-- The bytes that an expression is written with (document 01, "Expressions as text"): the seven marks, literals, digits.
use Rattle.std.specs.Prelude.{Bool, cond, ◌&&◌, ◌||◌, ℕ, eqb, leb}
use Rattle.rules.specs.Limits.{outside}
use Rattle.lexer.specs.declared.Kind.{Kind}
use Rattle.lexer.specs.declared.Kind.TheVariants.{Plain, Mark, Refused}

abbrev pub bar : ℕ
bar = 0x7c

abbrev pub asterisk : ℕ
asterisk = 0x2a

abbrev pub left_parenthesis : ℕ
left_parenthesis = 0x28

abbrev pub right_parenthesis : ℕ
right_parenthesis = 0x29

abbrev pub backslash : ℕ
backslash = 0x5c

abbrev pub left_brace : ℕ
left_brace = 0x7b

abbrev pub right_brace : ℕ
right_brace = 0x7d

abbrev pub comma : ℕ
comma = 0x2c

abbrev pub digit_zero : ℕ
digit_zero = 0x30

abbrev pub digit_nine : ℕ
digit_nine = 0x39

-- "the seven marks | * ( ) \ { }"
abbrev pub is_mark : ℕ → Bool
is_mark b =
    eqb b bar
    || (eqb b asterisk || (eqb b left_parenthesis || (eqb b right_parenthesis || (eqb b backslash || (eqb b left_brace || eqb b right_brace)))))

-- "Literals are bytes 0x20 to 0x7E other than the seven marks": what a byte may be in a text
abbrev pub kind_of : ℕ → Kind
kind_of b = cond (outside b) Refused (cond (is_mark b) Mark Plain)

abbrev pub is_digit : ℕ → Bool
is_digit b = leb digit_zero b && leb b digit_nine
