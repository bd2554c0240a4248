-- Repeats: one law for each answer of the function that reads them.
use mathlib.Core.Path.{◌≡◌, refl}
use mathlib.Core.Bool.{Bool, true, false, cond, ◌&&◌}
use mathlib.Core.List.{List}
use Prim.Native.Nat.{ℕ, ◌+◌}
use native.Mathlib.Omega.{arith}
use lib.ListN.{drop}
use lib.Seq.{drop-drop}
use lib.Dec.{leb}
use borrow.Author.Tests.{leb-true}
use Rattle.rules.proofs.Truth.{and_true_left, and_true_right}
use Rattle.lexer.specs.Bytes.{left_brace, right_brace, comma}
use Rattle.lexer.specs.Tokens.{no_number, number_at, bad_repeat, repeat, repeat_at, starts}
use Rattle.lexer.specs.declared.Figure.{Figure}
use Rattle.lexer.specs.Places.{FigureIs, closes_at, BracedIs}
use Rattle.lexer.proofs.Front.{byte_inside}

-- a repeat, whose brace stands at a place
module _ (t : List ℕ) (here : ℕ) (e : starts (drop here t) left_brace ≡ true) where
  module _ {x : Figure} (p : FigureIs t (here + 1) x) where
    pub repeat_second : number_at (drop (here + (x.digits + 2)) t) ≡ no_number → repeat_at (drop here t) ≡ bad_repeat
    repeat_second d = rw (e, drop-drop 1 here t, p.number, drop-drop (x.digits + 2) here t, d) refl

    module _ {y : Figure} (q : FigureIs t (here + (x.digits + 2)) y) where
      parts : (c : Bool) → closes_at t (here + (x.digits + 1)) (here + (x.digits + y.digits + 2)) x.value y.value ≡ c
          → repeat_at (drop here t) ≡ cond c (repeat x.value y.value (x.digits + y.digits + 3)) bad_repeat
      parts c d =
          rw (e, drop-drop 1 here t, p.number, drop-drop (x.digits + 2) here t, q.number, drop-drop (x.digits + 1) here t, drop-drop (x.digits + y.digits + 2) here t, d) refl

      pub repeat_bad : closes_at t (here + (x.digits + 1)) (here + (x.digits + y.digits + 2)) x.value y.value ≡ false → repeat_at (drop here t) ≡ bad_repeat
      repeat_bad d = parts false d

      -- the brace that closes it stands in the text
      pub repeat_good : (b : ℕ) → closes_at t (here + (x.digits + 1)) (here + (x.digits + y.digits + 2)) x.value y.value ≡ true
          → BracedIs t b here (record { byte = b; least = x.value; most = y.value; next = here + (x.digits + y.digits + 2) + 1 })
      repeat_good b d =
          let rest = and_true_right (starts (drop (here + (x.digits + 1)) t) comma) (starts (drop (here + (x.digits + y.digits + 2)) t) right_brace && leb x.value y.value) d in
          let brace = and_true_left (starts (drop (here + (x.digits + y.digits + 2)) t) right_brace) (leb x.value y.value) rest in
          let z : here + (x.digits + y.digits + 2) + 1 ≡ here + (x.digits + y.digits + 3) = omega arith in
          record {
            value = rw (parts true d, z) refl;
            fits = record {
              rising = leb-true x.value y.value (and_true_right (starts (drop (here + (x.digits + y.digits + 2)) t) right_brace) (leb x.value y.value) rest);
              small = q.small;
              further = omega arith;
              inside = omega (arith, byte_inside t (here + (x.digits + y.digits + 2)) right_brace brace);
            };
          }
