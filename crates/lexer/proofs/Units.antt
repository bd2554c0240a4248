-- From the byte where a unit other than a parenthesis starts to its token: one law for each answer of the functions that read it.
use mathlib.Core.Path.{◌≡◌, refl, ap, sym, ◌∙◌}
use mathlib.Core.Bool.{true, true≢false, ◌&&◌, not}
use mathlib.Core.List.{List, ◌∷◌}
use Prim.Native.Nat.{ℕ, ◌+◌, ◌<◌, ◌≤◌}
use native.Mathlib.Nat.{add-zero}
use native.Mathlib.Omega.{arith}
use lib.ListN.{length, get_or, drop, drop_of_length-le}
use borrow.Author.Tests.{not-true}
use Rattle.std.specs.Prelude.{Result, IfOk, MatchResult}
use Rattle.rules.specs.declared.TextFault.{TextFault}
use Rattle.rules.specs.declared.TextFault.TheVariants.{TextByte, RepeatFault}
use Rattle.rules.specs.Fault.{Refusal, at}
use Rattle.rules.proofs.Truth.{and_true_left, and_true_right}
use Rattle.lexer.specs.declared.Kind.{Kind}
use Rattle.lexer.specs.declared.Kind.TheVariants.{Plain, Mark, Refused}
use Rattle.lexer.specs.declared.Literal.{Literal}
use Rattle.lexer.specs.Bytes.{backslash, left_brace, kind_of}
use Rattle.lexer.specs.Tokens.{Repeat, no_repeat, bad_repeat, repeat, repeat_at, a_literal, placed, wrong, literal_of, escaped_by, escaped_of, starts, token_of, tokens_from}
use Rattle.lexer.specs.Places.{unit_at, is_plain, plain_at, literal_with, LiteralFits, Taken, Faulty}
use Rattle.lexer.proofs.Front.{front_in, front-inside, byte_inside, byte_is, tokens_token, tokens_wrong}

module _ (t : List ℕ) (here : ℕ) where
  module _ (h : here < length t) where
    -- what `repeated` gives, as a token. b: the literal's byte; o: how many bytes after the first it has
    taken : (b o : ℕ) (r : Repeat) (q : Result Literal Refusal) → q ≡ literal_with b (here + 1 + o) r → IfOk q (LiteralFits (length t) (here + 1 + o))
        → token_of (get_or t here 0) (drop (here + 1) t) ≡ literal_of b o r → MatchResult q (Taken t here) (Faulty t here)
    taken b o no_repeat q e f g =
        let w : LiteralFits (length t) (here + 1 + o) (record { byte = b; least = 1; most = 1; next = here + 1 + o }) = rw e at f in
        rw e (record { token = tokens_token t here h (a_literal b 1 1) o g; further = omega arith; inside = w.inside; least = w.rising; most = w.small })
    taken b o bad_repeat q e f g =
        let z : here + (o + 1) ≡ here + 1 + o = omega arith in
        rw e (rw z at (tokens_wrong t here h RepeatFault (o + 1) g))
    taken b o (repeat x y n) q e f g =
        let w : LiteralFits (length t) (here + 1 + o) (record { byte = b; least = x; most = y; next = here + 1 + o + n }) = rw e at f in
        let z : here + 1 + (o + n) ≡ here + 1 + o + n = omega arith in
        rw e (record { token = rw z at (tokens_token t here h (a_literal b x y) (o + n) g); further = omega (arith, w.further); inside = w.inside; least = w.rising; most = w.small })

    fault_here : (k : TextFault) → token_of (get_or t here 0) (drop (here + 1) t) ≡ wrong k 0 → Faulty t here (at here k)
    fault_here k e = rw (add-zero here) at (tokens_wrong t here h k 0 e)

  -- where a unit starts
  pub literal_plain : (q : Result Literal Refusal) → unit_at (drop here t) ≡ true → kind_of (get_or t here 0) ≡ Plain
      → q ≡ literal_with (get_or t here 0) (here + 1) (repeat_at (drop (here + 1) t)) → IfOk q (LiteralFits (length t) (here + 1))
      → MatchResult q (Taken t here) (Faulty t here)
  literal_plain q u k e f =
      let z : here + 1 ≡ here + 1 + 0 = omega arith in
      taken (front-inside unit_at t here refl u) (get_or t here 0) 0 (repeat_at (drop (here + 1) t)) q (e ∙ rw (← z) refl) (rw (← z) f) (rw k refl)

  -- after a backslash
  module _ (e : starts (drop here t) backslash ≡ true) where
    after : token_of (get_or t here 0) (drop (here + 1) t) ≡ escaped_of (drop (here + 1) t)
    after = rw (byte_is t here backslash e) refl

    pub escaped_end : length t ≤ here + 1 → Faulty t here (at here TextByte)
    escaped_end h = fault_here (byte_inside t here backslash e) TextByte (after ∙ ap escaped_of (drop_of_length-le t {i = here + 1} h))

    module _ (h : here + 1 < length t) where
      by : {k : Kind} → kind_of (get_or t (here + 1) 0) ≡ k
          → token_of (get_or t here 0) (drop (here + 1) t) ≡ escaped_by k (get_or t (here + 1) 0) (drop (here + 1 + 1) t)
      by m = after ∙ sym (front_in escaped_of t (here + 1) h) ∙ rw m refl

      pub escaped_mark : (q : Result Literal Refusal) → kind_of (get_or t (here + 1) 0) ≡ Mark
          → q ≡ literal_with (get_or t (here + 1) 0) (here + 2) (repeat_at (drop (here + 2) t)) → IfOk q (LiteralFits (length t) (here + 2))
          → MatchResult q (Taken t here) (Faulty t here)
      escaped_mark q m w f =
          let z : here + 2 ≡ here + 1 + 1 = omega arith in
          taken (byte_inside t here backslash e) (get_or t (here + 1) 0) 1 (repeat_at (drop (here + 1 + 1) t)) q (rw z at w) (rw z at f) (by m)

      -- a byte that is no mark
      pub escaped_other : (kind_of (get_or t (here + 1) 0) ≡ Mark → ⊥) → Faulty t here (at here TextByte)
      escaped_other n = fault_here (byte_inside t here backslash e) TextByte (go (kind_of (get_or t (here + 1) 0)) refl)
        where
          go : (k : Kind) → kind_of (get_or t (here + 1) 0) ≡ k → token_of (get_or t here 0) (drop (here + 1) t) ≡ wrong TextByte 0
          go Plain m = by m
          go Mark m = absurd (n m)
          go Refused m = by m

-- the short way: no mark, and no repeat
module _ (t : List ℕ) (here : ℕ) (p : plain_at (drop here t) ≡ true) where
  pub plain_inside : here < length t
  plain_inside = front-inside plain_at t here refl p

  pub tokens_plain : tokens_from t here ≡ placed here (a_literal (get_or t here 0) 1 1) ∷ tokens_from t (here + 1)
  tokens_plain =
      let b = get_or t here 0 in
      let s = drop (here + 1) t in
      let w : (is_plain (kind_of (get_or t here 0)) && not (starts (drop (here + 1) t) left_brace)) ≡ true = front_in plain_at t here plain_inside ∙ p in
      let k = is_plain_lem (kind_of b) (and_true_left (is_plain (kind_of b)) (not (starts s left_brace)) w) in
      let n = not-true (starts s left_brace) (and_true_right (is_plain (kind_of b)) (not (starts s left_brace)) w) in
      let z : here + 1 + 0 ≡ here + 1 = omega arith in
      rw z at (tokens_token t here plain_inside (a_literal (get_or t here 0) 1 1) 0 (rw (k, n) refl))
    where
      is_plain_lem : (k : Kind) → is_plain k ≡ true → k ≡ Plain
      is_plain_lem Plain e = refl
      is_plain_lem Mark e = absurd (true≢false (sym e))
      is_plain_lem Refused e = absurd (true≢false (sym e))
