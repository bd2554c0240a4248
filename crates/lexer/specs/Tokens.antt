-- From the bytes of an expression to its tokens, each with its place (document 01, "Expressions as text"; faults 11 and 19).
use Rattle.std.specs.Prelude.{Bool, false, cond, ◌&&◌, List, [], ◌∷◌, ℕ, zero, suc, ◌+◌, ◌-◌, ◌*◌, eqb, leb, drop, get_or}
use Rattle.rules.specs.declared.TextFault.{TextFault}
use Rattle.rules.specs.declared.TextFault.TheVariants.{TextByte, RepeatFault}
use Rattle.lexer.specs.declared.Kind.{Kind}
use Rattle.lexer.specs.declared.Kind.TheVariants.{Plain, Mark, Refused}
use Rattle.lexer.specs.Bytes.{bar, asterisk, left_parenthesis, right_parenthesis, backslash, left_brace, right_brace, comma, digit_zero, kind_of, is_digit}

-- a literal with its repeat {x,y} (alone: 1 to 1), the marks, and what is no token: 11 or 19
pub data Token : Type 0 where
  a_literal : ℕ → ℕ → ℕ → Token
  a_bar a_star an_open a_close : Token
  a_fault : TextFault → Token

-- a token and the place of its first byte
pub data Placed : Type 0 where
  placed : ℕ → Token → Placed

-- the first of these bytes is a digit, the byte c
abbrev pub digit_at : List ℕ → Bool
digit_at [] = false
digit_at (b ∷ s) = is_digit b

abbrev pub starts : List ℕ → ℕ → Bool
starts [] c = false
starts (b ∷ s) c = eqb b c

-- "each number of one or two digits": its value and how many
pub data Number : Type 0 where
  digits : ℕ → ℕ → Number
  no_number : Number

abbrev pub value : List ℕ → ℕ → ℕ
value s i = get_or s i 0 - digit_zero

abbrev pub number_at : List ℕ → Number
number_at s =
    cond (digit_at s)
    (cond (digit_at (drop 1 s)) (digits (10 * value s 0 + value s 1) 2) (digits (value s 0) 1))
    no_number

-- after a literal: no brace, a malformed repeat, or {x,y} with x at most y and how many bytes it has
pub data Repeat : Type 0 where
  no_repeat bad_repeat : Repeat
  repeat : ℕ → ℕ → ℕ → Repeat

-- x was read from i digits, and the second number stands after a comma
abbrev pub closed : List ℕ → ℕ → ℕ → Number → Repeat
closed s x i no_number = bad_repeat
closed s x i (digits y j) =
    cond (starts (drop (i + 1) s) comma && (starts (drop (i + j + 2) s) right_brace && leb x y)) (repeat x y (i + j + 3)) bad_repeat

abbrev pub counted : List ℕ → Number → Repeat
counted s no_number = bad_repeat
counted s (digits x i) = closed s x i (number_at (drop (i + 2) s))

abbrev pub repeat_at : List ℕ → Repeat
repeat_at s = cond (starts s left_brace) (counted s (number_at (drop 1 s))) no_repeat

-- the first token of bytes and how many bytes it has after its first; or a fault's number and how many bytes on it lies
pub data One : Type 0 where
  tok : Token → ℕ → One
  wrong : TextFault → ℕ → One

-- a literal byte whose last byte lies o bytes on, and what follows it; a fault between braces is 19 at the {
abbrev pub literal_of : ℕ → ℕ → Repeat → One
literal_of b o no_repeat = tok (a_literal b 1 1) o
literal_of b o bad_repeat = wrong RepeatFault (o + 1)
literal_of b o (repeat x y n) = tok (a_literal b x y) (o + n)

-- "A mark is written as a literal by a backslash before it": b stands after the backslash, and s after b
abbrev pub escaped_by : Kind → ℕ → List ℕ → One
escaped_by Mark b s = literal_of b 1 (repeat_at s)
escaped_by Plain b s = wrong TextByte 0
escaped_by Refused b s = wrong TextByte 0

abbrev pub escaped_of : List ℕ → One
escaped_of [] = wrong TextByte 0
escaped_of (b ∷ s) = escaped_by (kind_of b) b s

-- the mark b before the bytes s; a brace that no literal stands before is 19
abbrev pub mark_of : ℕ → List ℕ → One
mark_of b s =
    cond (eqb b bar) (tok a_bar 0)
    (cond (eqb b asterisk) (tok a_star 0)
    (cond (eqb b left_parenthesis) (tok an_open 0)
    (cond (eqb b right_parenthesis) (tok a_close 0)
    (cond (eqb b backslash) (escaped_of s)
    (wrong RepeatFault 0)))))

-- the byte b of a kind before the bytes s
abbrev pub token_by : Kind → ℕ → List ℕ → One
token_by Plain b s = literal_of b 0 (repeat_at s)
token_by Mark b s = mark_of b s
token_by Refused b s = wrong TextByte 0

abbrev pub token_of : ℕ → List ℕ → One
token_of b s = token_by (kind_of b) b s

-- the first token at place i, before the rest; nothing is read after a fault
abbrev pub first : ℕ → (ℕ → List Placed) → One → List Placed
first i rest (tok t n) = placed i t ∷ rest n
first i rest (wrong k o) = placed (i + o) (a_fault k) ∷ []

-- the tokens from place i on, to the first fault; the next `skip` bytes belong to the token before
abbrev pub lex : ℕ → ℕ → List ℕ → List Placed
lex i skip [] = []
lex i (suc k) (b ∷ s) = lex (suc i) k s
lex i zero (b ∷ s) = first i (λ n. lex (suc i) n s) (token_of b s)

-- the tokens of a text from a place on
abbrev pub tokens_from : List ℕ → ℕ → List Placed
tokens_from text at = lex at 0 (drop at text)
