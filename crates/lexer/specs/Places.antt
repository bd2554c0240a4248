-- What the lexer's functions answer about a place of a text, and its walks about a whole one. No contract of an export cites these.
use Rattle.std.specs.Prelude.{◌≡◌, Bool, true, false, ◌&&◌, not, List, [], ◌∷◌, ℕ, ◌+◌, ◌-◌, ◌<◌, ◌≤◌, eqb, leb, length, get_or, drop, Result, Ok, Err}
use Rattle.std.proofs.Math.Option.{some}
use Rattle.rules.specs.Limits.{most_copies}
use Rattle.rules.specs.declared.TextFault.TheVariants.{LeavesMany, RepeatFault}
use Rattle.rules.specs.Fault.{Refusal, at}
use Rattle.lexer.specs.declared.Kind.{Kind}
use Rattle.lexer.specs.declared.Kind.TheVariants.{Plain, Mark, Refused}
use Rattle.lexer.specs.declared.Figure.{Figure}
use Rattle.lexer.specs.declared.Literal.{Literal}
use Rattle.lexer.specs.declared.Step.{Step}
use Rattle.lexer.specs.Bytes.{bar, asterisk, right_parenthesis, left_brace, right_brace, comma, digit_zero, kind_of}
use Rattle.lexer.specs.Tokens.{Token, a_literal, a_fault, Placed, placed, starts, tokens_from}
use Rattle.lexer.specs.Tokens.{digit_at, digits, number_at, Repeat, no_repeat, bad_repeat, repeat, repeat_at}
use Rattle.lexer.specs.Faults.{lexical, leaves_of, passing}

-- a unit may start with this byte: a literal, or what is no token, or an open parenthesis
abbrev pub starts_unit : ℕ → Bool
starts_unit b = not (eqb b bar) && (not (eqb b asterisk) && not (eqb b right_parenthesis))

-- a unit starts with the first of these bytes
abbrev pub unit_at : List ℕ → Bool
unit_at [] = false
unit_at (b ∷ s) = starts_unit b

-- a literal that is no mark
abbrev pub is_plain : Kind → Bool
is_plain Plain = true
is_plain Mark = false
is_plain Refused = false

-- the first of these bytes is one, with no repeat after it
abbrev pub plain_at : List ℕ → Bool
plain_at [] = false
plain_at (b ∷ s) = is_plain (kind_of b) && not (starts s left_brace)

-- a digit stands at a place, of this value
pub record DigitIs (t : List ℕ) (here d : ℕ) : Type 0 where
  pub digit : digit_at (drop here t) ≡ true
  pub value : d ≡ get_or t here 0 - digit_zero
  pub small : d ≤ 9

-- the number at a place is this one, whose digits stand in the text
pub record FigureIs (t : List ℕ) (here : ℕ) (f : Figure) : Type 0 where
  pub number : number_at (drop here t) ≡ digits f.value f.digits
  pub small : f.value ≤ most_copies
  pub short : f.digits ≤ 2
  pub inside : here + f.digits ≤ length t

-- the comma and the brace that a repeat has at these places, and its numbers in order
abbrev pub closes_at : List ℕ → ℕ → ℕ → ℕ → ℕ → Bool
closes_at t i j x y = starts (drop i t) comma && (starts (drop j t) right_brace && leb x y)

-- the literal b before a place, with the repeat that stands there
abbrev pub literal_with : ℕ → ℕ → Repeat → Result Literal Refusal
literal_with b place no_repeat = Ok (record { byte = b; least = 1; most = 1; next = place })
literal_with b place bad_repeat = Err (at place RepeatFault)
literal_with b place (repeat x y n) = Ok (record { byte = b; least = x; most = y; next = place + n })

-- its numbers in order and small, and the place after it in the text
pub record LiteralFits (len place : ℕ) (l : Literal) : Type 0 where
  pub rising : l.least ≤ l.most
  pub small : l.most ≤ most_copies
  pub further : place ≤ l.next
  pub inside : l.next ≤ len

-- the repeat at a place makes this literal of the byte before it
pub record BracedIs (t : List ℕ) (b here : ℕ) (l : Literal) : Type 0 where
  pub value : literal_with b here (repeat_at (drop here t)) ≡ Ok l
  pub fits : LiteralFits (length t) here l

-- the token at a place is this literal, and the next token stands at the place after it
pub record Taken (t : List ℕ) (here : ℕ) (l : Literal) : Type 0 where
  pub token : tokens_from t here ≡ placed here (a_literal l.byte l.least l.most) ∷ tokens_from t l.next
  pub further : here < l.next
  pub inside : l.next ≤ length t
  pub least : l.least ≤ l.most
  pub most : l.most ≤ most_copies

-- from a place on there is only this fault
abbrev pub Faulty : List ℕ → ℕ → Refusal → Type 0
Faulty t here f = tokens_from t here ≡ placed f.place (a_fault f.fault) ∷ []

-- a token that is no fault stands here, with these leaves
pub record Stepped (t : List ℕ) (here : ℕ) (s : Step) : Type 0 where
  pub token : Token
  pub front : tokens_from t here ≡ placed here token ∷ tokens_from t s.next
  pub sound : (ps : List Placed) → lexical (placed here token ∷ ps) ≡ lexical ps
  pub leaves : s.leaves ≡ leaves_of token
  pub few : s.leaves ≤ most_copies
  pub further : here < s.next
  pub inside : s.next ≤ length t

-- where the leaves pass the limit, they do so here
abbrev pub PassesAt : List ℕ → ℕ → Type 0
PassesAt t here = (f : Refusal) → passing 0 (tokens_from t 0) ≡ some f → f ≡ at here LeavesMany
