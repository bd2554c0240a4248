-- What a test on the bytes from a place on says of that place, and a token off the front of a text.
use mathlib.Core.Path.{◌≡◌, refl, ap, sym, ◌∙◌}
use mathlib.Core.Logic.{by_cases}
use mathlib.Core.Bool.{Bool, true, false, true≢false}
use mathlib.Core.List.{List, [], ◌∷◌}
use Prim.Native.Nat.{ℕ, zero, suc, ◌+◌, ◌<◌, ◌≤◌}
use native.Mathlib.Nat.{add-zero}
use native.Mathlib.Numerals.{add-one}
use native.Mathlib.Decide.{dec_lt}
use native.Mathlib.Omega.{arith}
use lib.ListN.{length, get_or, drop, drop_of_length-le}
use lib.Seq.{drop-cons, drop-drop}
use borrow.Author.Tests.{eqb-true}
use Rattle.rules.specs.declared.TextFault.{TextFault}
use Rattle.lexer.specs.Bytes.{bar, asterisk, left_parenthesis, right_parenthesis}
use Rattle.lexer.specs.Tokens.{Token, Placed, placed, a_bar, a_star, an_open, a_close, a_fault, tok, wrong, first, starts, token_of, lex, tokens_from}

-- a function of the bytes from a place on sees the byte there first
pub front_in : {A : Type 0} (f : List ℕ → A) (t : List ℕ) (at : ℕ) → at < length t → f (get_or t at 0 ∷ drop (at + 1) t) ≡ f (drop at t)
front_in f t at h = rw (add-one at) (ap f (sym (drop-cons t at 0 h)))

-- a test that no bytes pass, on the bytes from a place on
module _ (f : List ℕ → Bool) (t : List ℕ) (at : ℕ) where
  module _ (n : f [] ≡ false) where
    pub front_out : length t ≤ at → false ≡ f (drop at t)
    front_out h = rw (drop_of_length-le t {i = at} h) (sym n)

    pub front-inside : f (drop at t) ≡ true → at < length t
    front-inside e =
        by_cases (dec_lt at (length t))
        (λ (h : at < length t). h)
        (λ (h : ¬ (at < length t)). absurd (true≢false (sym e ∙ sym (front_out (omega arith)))))

module _ (t : List ℕ) (at c : ℕ) (e : starts (drop at t) c ≡ true) where
  pub byte_inside : at < length t
  byte_inside = front-inside (λ (s : List ℕ). starts s c) t at refl e

  pub byte_is : get_or t at 0 ≡ c
  byte_is = eqb-true (get_or t at 0) c (front_in (λ (s : List ℕ). starts s c) t at byte_inside ∙ e)

-- a token off the front

lex_skip : (i n : ℕ) (s : List ℕ) → lex i n s ≡ lex (i + n) 0 (drop n s)
lex_skip i zero s = rw (add-zero i) refl
lex_skip i (suc k) [] = refl
lex_skip i (suc k) (b ∷ s) =
    let e : suc i + k ≡ i + suc k = omega arith in
    lex_skip (suc i) k s ∙ ap (λ (j : ℕ). lex j 0 (drop k s)) e

module _ (t : List ℕ) (at : ℕ) where
  pub tokens_end : length t ≤ at → tokens_from t at ≡ []
  tokens_end h = rw (drop_of_length-le t {i = at} h) refl

  module _ (h : at < length t) where
    pub tokens_token : (x : Token) (n : ℕ) → token_of (get_or t at 0) (drop (at + 1) t) ≡ tok x n → tokens_from t at ≡ placed at x ∷ tokens_from t (at + 1 + n)
    tokens_token x n e =
        let q : token_of (get_or t at 0) (drop (suc at) t) ≡ tok x n = rw (add-one at) at e in
        rw (drop-cons t at 0, add-one at)
        (ap (first at (λ (j : ℕ). lex (suc at) j (drop (suc at) t))) q
        ∙ ap (λ (ps : List Placed). placed at x ∷ ps) (lex_skip (suc at) n (drop (suc at) t) ∙ rw (drop-drop n (suc at) t) refl))

    pub tokens_wrong : (k : TextFault) (o : ℕ) → token_of (get_or t at 0) (drop (at + 1) t) ≡ wrong k o → tokens_from t at ≡ placed (at + o) (a_fault k) ∷ []
    tokens_wrong k o e =
        let q : token_of (get_or t at 0) (drop (suc at) t) ≡ wrong k o = rw (add-one at) at e in
        rw (drop-cons t at 0) (ap (first at (λ (j : ℕ). lex (suc at) j (drop (suc at) t))) q)

  -- a mark that is a token by itself
  one_byte : (c : ℕ) (x : Token) → ((s : List ℕ) → token_of c s ≡ tok x 0) → starts (drop at t) c ≡ true → tokens_from t at ≡ placed at x ∷ tokens_from t (at + 1)
  one_byte c x o e =
      let z : at + 1 + 0 ≡ at + 1 = omega arith in
      rw z at (tokens_token (byte_inside t at c e) x 0 (rw (byte_is t at c e) (o (drop (at + 1) t))))

  pub tokens_bar : starts (drop at t) bar ≡ true → tokens_from t at ≡ placed at a_bar ∷ tokens_from t (at + 1)
  tokens_bar = one_byte bar a_bar (λ s. refl)

  pub tokens_star : starts (drop at t) asterisk ≡ true → tokens_from t at ≡ placed at a_star ∷ tokens_from t (at + 1)
  tokens_star = one_byte asterisk a_star (λ s. refl)

  pub tokens_open : starts (drop at t) left_parenthesis ≡ true → tokens_from t at ≡ placed at an_open ∷ tokens_from t (at + 1)
  tokens_open = one_byte left_parenthesis an_open (λ s. refl)

  pub tokens_close : starts (drop at t) right_parenthesis ≡ true → tokens_from t at ≡ placed at a_close ∷ tokens_from t (at + 1)
  tokens_close = one_byte right_parenthesis a_close (λ s. refl)
