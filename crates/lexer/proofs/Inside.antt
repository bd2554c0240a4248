-- The places of tokens lie within the text.
use mathlib.Core.Bool.{Bool, true, false, cond}
use mathlib.Core.List.{List, [], ◌∷◌}
use Prim.Native.Nat.{ℕ, zero, suc, ◌+◌, ◌≤◌}
use native.Mathlib.Omega.{arith}
use lib.Dec.{eqb}
use lib.ListN.{length}
use Rattle.rules.specs.declared.TextFault.{TextFault}
use Rattle.lexer.specs.declared.Kind.{Kind}
use Rattle.lexer.specs.declared.Kind.TheVariants.{Plain, Mark, Refused}
use Rattle.lexer.specs.Bytes.{bar, asterisk, left_parenthesis, right_parenthesis, backslash, kind_of}
use Rattle.lexer.specs.Tokens.{Token, Placed, placed, Repeat, no_repeat, bad_repeat, repeat, repeat_at}
use Rattle.lexer.specs.Tokens.{One, tok, wrong, literal_of, escaped_by, escaped_of, mark_of, token_by, token_of, first, lex, tokens_from}

-- every place is at most e
abbrev pub Inside : ℕ → List Placed → Type 0
Inside e [] = Unit {0}
Inside e (placed i t ∷ ps) = (i ≤ e) × Inside e ps

-- a fault lies at most n bytes on
data Near (n : ℕ) : One → Type 0 where
  token : {t : Token} {k : ℕ} → Near n (tok t k)
  fault : {k : TextFault} {o : ℕ} → o ≤ n → Near n (wrong k o)

pick : {n : ℕ} (c : Bool) {x y : One} → Near n x → Near n y → Near n (cond c x y)
pick true p q = p
pick false p q = q

-- a fault at the first byte
here : {k : TextFault} (n : ℕ) → Near n (wrong k 0)
here n = fault {o = 0} (omega arith)

literal_near : (n b o : ℕ) (r : Repeat) → o + 1 ≤ n → Near n (literal_of b o r)
literal_near n b o no_repeat h = token
literal_near n b o bad_repeat h = fault h
literal_near n b o (repeat x y k) h = token

escaped_near : (s : List ℕ) → Near (length s + 1) (escaped_of s)
escaped_near [] = here 1
escaped_near (b ∷ s) = go (kind_of b)
  where
    go : (k : Kind) → Near (length (b ∷ s) + 1) (escaped_by k b s)
    go Plain = here (length (b ∷ s) + 1)
    go Mark = literal_near (length (b ∷ s) + 1) b 1 (repeat_at s) (omega arith)
    go Refused = here (length (b ∷ s) + 1)

mark_near : (b : ℕ) (s : List ℕ) → Near (length s + 1) (mark_of b s)
mark_near b s =
    pick (eqb b bar) token (pick (eqb b asterisk) token (pick (eqb b left_parenthesis) token (pick (eqb b right_parenthesis) token
    (pick (eqb b backslash) (escaped_near s) (here (length s + 1))))))

token_near : (b : ℕ) (s : List ℕ) → Near (length s + 1) (token_of b s)
token_near b s = go (kind_of b)
  where
    go : (k : Kind) → Near (length s + 1) (token_by k b s)
    go Plain = literal_near (length s + 1) b 0 (repeat_at s) (omega arith)
    go Mark = mark_near b s
    go Refused = here (length s + 1)

lex-inside : (e i skip : ℕ) (s : List ℕ) → i + length s ≤ e → Inside e (lex i skip s)
lex-inside e i skip [] h = tt
lex-inside e i (suc k) (b ∷ s) h = lex-inside e (suc i) k s (omega arith)
lex-inside e i zero (b ∷ s) h = go (token_of b s) (token_near b s) (λ n. lex-inside e (suc i) n s (omega arith))
  where
    go : (o : One) → Near (length s + 1) o → ((n : ℕ) → Inside e (lex (suc i) n s)) → Inside e (first i (λ n. lex (suc i) n s) o)
    go (tok t n) token rest = (omega arith, rest n)
    go (wrong k o) (fault l) rest = (omega arith, tt)

pub inside : (text : List ℕ) → Inside (length text) (tokens_from text 0)
inside text = lex-inside (length text) 0 0 text (omega arith)
