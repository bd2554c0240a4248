-- The literals of tokens are bytes that may be written, a repeat's first number is at most its second, and a fault is 11 or 19.
use mathlib.Core.Path.{◌≡◌, refl, sym, ◌∙◌}
use mathlib.Core.Logic.{◌⊎◌, inl, inr}
use mathlib.Core.Bool.{Bool, true, false, cond, ◌&&◌}
use mathlib.Core.List.{List, [], ◌∷◌}
use Prim.Native.Nat.{ℕ, zero, suc, ◌+◌, ◌≤◌}
use native.Mathlib.Omega.{arith}
use lib.Dec.{eqb, leb}
use lib.ListN.{drop}
use borrow.Author.Tests.{leb-true}
use Rattle.rules.specs.Limits.{outside}
use Rattle.rules.specs.declared.TextFault.{TextFault}
use Rattle.rules.specs.declared.TextFault.TheVariants.{TextByte, RepeatFault}
use Rattle.lexer.specs.declared.Kind.{Kind}
use Rattle.lexer.specs.declared.Kind.TheVariants.{Plain, Mark, Refused}
use Rattle.lexer.specs.Bytes.{bar, asterisk, left_parenthesis, right_parenthesis, backslash, left_brace, right_brace, comma, kind_of}
use Rattle.lexer.specs.Tokens.{Token, a_literal, a_bar, a_star, an_open, a_close, a_fault, Placed, placed, starts}
use Rattle.lexer.specs.Tokens.{Number, digits, no_number, number_at, Repeat, no_repeat, bad_repeat, repeat, closed, counted, repeat_at}
use Rattle.lexer.specs.Tokens.{One, tok, wrong, literal_of, escaped_by, escaped_of, mark_of, token_by, token_of, first, lex, tokens_from}

-- a literal is within the range of literal bytes, and repeated rightly
abbrev pub Literal : Token → Type 0
Literal (a_literal b x y) = (outside b ≡ false) × (x ≤ y)
Literal a_bar = Unit {0}
Literal a_star = Unit {0}
Literal an_open = Unit {0}
Literal a_close = Unit {0}
Literal (a_fault k) = (k ≡ TextByte) ⊎ (k ≡ RepeatFault)

abbrev pub Writable : List Placed → Type 0
Writable [] = Unit {0}
Writable (placed i t ∷ ps) = Literal t × Writable ps

-- a byte that is not refused is within the range
within : (b : ℕ) (k : Kind) → kind_of b ≡ k → (k ≡ Refused → ⊥) → outside b ≡ false
within b k e n = go (outside b) refl
  where
    go : (c : Bool) → outside b ≡ c → outside b ≡ false
    go true o = absurd (n (sym e ∙ rw o refl))
    go false o = o

plain_within : (b : ℕ) → kind_of b ≡ Plain → outside b ≡ false
plain_within b e = within b Plain e (λ q. let z : ◌≡◌ {A = ℕ} 0 1 = cc in omega arith)

mark_within : (b : ℕ) → kind_of b ≡ Mark → outside b ≡ false
mark_within b e = within b Mark e (λ q. let z : ◌≡◌ {A = ℕ} 0 1 = cc in omega arith)

-- a repeat's numbers
abbrev Rising : Repeat → Type 0
Rising no_repeat = Unit {0}
Rising bad_repeat = Unit {0}
Rising (repeat x y n) = x ≤ y

closed-rising : (s : List ℕ) (x i : ℕ) (m : Number) → Rising (closed s x i m)
closed-rising s x i no_number = tt
closed-rising s x i (digits y j) = go (starts (drop (i + 1) s) comma) (starts (drop (i + j + 2) s) right_brace) (leb x y) refl
  where
    go : (a b c : Bool) → leb x y ≡ c → Rising (cond (a && (b && c)) (repeat x y (i + j + 3)) bad_repeat)
    go true true true e = leb-true x y e
    go true true false e = tt
    go true false c e = tt
    go false b c e = tt

counted-rising : (s : List ℕ) (m : Number) → Rising (counted s m)
counted-rising s no_number = tt
counted-rising s (digits x i) = closed-rising s x i (number_at (drop (i + 2) s))

repeat-rising : (s : List ℕ) → Rising (repeat_at s)
repeat-rising s = go (starts s left_brace)
  where
    go : (c : Bool) → Rising (cond c (counted s (number_at (drop 1 s))) no_repeat)
    go true = counted-rising s (number_at (drop 1 s))
    go false = tt

-- the first token
data Right : One → Type 0 where
  token : {t : Token} {n : ℕ} → Literal t → Right (tok t n)
  fault : {k : TextFault} {o : ℕ} → Literal (a_fault k) → Right (wrong k o)

literal-right : (b o : ℕ) (r : Repeat) → outside b ≡ false → Rising r → Right (literal_of b o r)
literal-right b o no_repeat h r = token {t = a_literal b 1 1} (h, omega arith)
literal-right b o bad_repeat h r = fault (inr refl)
literal-right b o (repeat x y n) h r = token {t = a_literal b x y} (h, r)

escaped_right : (s : List ℕ) → Right (escaped_of s)
escaped_right [] = fault (inl refl)
escaped_right (b ∷ s) = go (kind_of b) refl
  where
    go : (k : Kind) → kind_of b ≡ k → Right (escaped_by k b s)
    go Plain e = fault (inl refl)
    go Mark e = literal-right b 1 (repeat_at s) (mark_within b e) (repeat-rising s)
    go Refused e = fault (inl refl)

mark_right : (b : ℕ) (s : List ℕ) → Right (mark_of b s)
mark_right b s =
    pick (eqb b bar) (token {t = a_bar} tt) (pick (eqb b asterisk) (token {t = a_star} tt)
    (pick (eqb b left_parenthesis) (token {t = an_open} tt) (pick (eqb b right_parenthesis) (token {t = a_close} tt)
    (pick (eqb b backslash) (escaped_right s) (fault (inr refl))))))
  where
    pick : (c : Bool) {x y : One} → Right x → Right y → Right (cond c x y)
    pick true p q = p
    pick false p q = q

token-right : (b : ℕ) (s : List ℕ) → Right (token_of b s)
token-right b s = go (kind_of b) refl
  where
    go : (k : Kind) → kind_of b ≡ k → Right (token_by k b s)
    go Plain e = literal-right b 0 (repeat_at s) (plain_within b e) (repeat-rising s)
    go Mark e = mark_right b s
    go Refused e = fault (inl refl)

lex-right : (i skip : ℕ) (s : List ℕ) → Writable (lex i skip s)
lex-right i skip [] = tt
lex-right i (suc k) (b ∷ s) = lex-right (suc i) k s
lex-right i zero (b ∷ s) = go (token_of b s) (token-right b s) (λ n. lex-right (suc i) n s)
  where
    go : (o : One) → Right o → ((n : ℕ) → Writable (lex (suc i) n s)) → Writable (first i (λ n. lex (suc i) n s) o)
    go (tok t n) (token l) rest = (l, rest n)
    go (wrong k o) (fault f) rest = (f, tt)

pub writable : (text : List ℕ) (at : ℕ) → Writable (tokens_from text at)
writable text at = lex-right at 0 (drop at text)
