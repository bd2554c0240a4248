-- The walks over tokens: 11 and 19, and where the leaves pass the limit.
use mathlib.Core.Path.{◌≡◌, refl, sym, ◌∙◌}
use mathlib.Core.Bool.{Bool, true, false, true≢false, cond, ◌&&◌, not}
use mathlib.Core.Option.{Option, none, some}
use mathlib.Core.List.{List, [], ◌∷◌}
use Prim.Native.Nat.{ℕ, ◌+◌, ◌<◌, ◌≤◌}
use native.Mathlib.Omega.{arith}
use lib.Dec.{ltb, eqb}
use lib.ListN.{length, get_or, drop}
use borrow.Author.Tests.{le-ltb, ltb-false}
use Rattle.rules.specs.Limits.{leaf_limit}
use Rattle.rules.specs.declared.TextFault.TheVariants.{LeavesMany}
use Rattle.rules.specs.Fault.{Refusal, at}
use Rattle.rules.proofs.Grounds.{no_some}
use Rattle.lexer.specs.Bytes.{bar, asterisk, left_parenthesis, right_parenthesis}
use Rattle.lexer.specs.Tokens.{Placed, placed, a_bar, a_star, an_open, a_close, starts}
use Rattle.lexer.specs.Faults.{leaves_of, passing}
use Rattle.lexer.specs.Places.{unit_at, Stepped}
use Rattle.lexer.proofs.Front.{front_in, byte_inside, tokens_bar, tokens_star, tokens_open, tokens_close}

-- A STEP
-- where no unit starts, what is neither a bar nor a closed parenthesis is a star
pub joins : (a b c : Bool) → (not a && (not b && not c)) ≡ false → c ≡ false → a ≡ false → b ≡ true
joins true b c e f g = absurd (true≢false g)
joins false true c e f g = refl
joins false false true e f g = absurd (true≢false f)
joins false false false e f g = absurd (true≢false e)

module _ (t : List ℕ) (here : ℕ) where
  pub step_open : starts (drop here t) left_parenthesis ≡ true → Stepped t here (record { next = here + 1; leaves = 0 })
  step_open e = record {
    token = an_open;
    front = tokens_open t here e;
    sound = λ ps. refl;
    leaves = refl;
    few = omega arith;
    further = omega arith;
    inside = omega (arith, byte_inside t here left_parenthesis e);
  }

  -- a bar, a star or a closed parenthesis
  pub step_mark : here < length t → unit_at (drop here t) ≡ false → Stepped t here (record { next = here + 1; leaves = 0 })
  step_mark h u = go (eqb (get_or t here 0) bar) (eqb (get_or t here 0) right_parenthesis) refl refl
    where
      byte : (c : ℕ) → starts (drop here t) c ≡ eqb (get_or t here 0) c
      byte c = sym (front_in (λ (s : List ℕ). starts s c) t here h)

      go : (p q : Bool) → eqb (get_or t here 0) bar ≡ p → eqb (get_or t here 0) right_parenthesis ≡ q → Stepped t here (record { next = here + 1; leaves = 0 })
      go true q e f = record {
        token = a_bar;
        front = tokens_bar t here (byte bar ∙ e);
        sound = λ ps. refl;
        leaves = refl;
        few = omega arith;
        further = omega arith;
        inside = omega arith;
      }
      go false true e f = record {
        token = a_close;
        front = tokens_close t here (byte right_parenthesis ∙ f);
        sound = λ ps. refl;
        leaves = refl;
        few = omega arith;
        further = omega arith;
        inside = omega arith;
      }
      go false false e f =
          let k = joins (eqb (get_or t here 0) bar) (eqb (get_or t here 0) asterisk) (eqb (get_or t here 0) right_parenthesis) (front_in unit_at t here h ∙ u) f e in
          record {
            token = a_star;
            front = tokens_star t here (byte asterisk ∙ k);
            sound = λ ps. refl;
            leaves = refl;
            few = omega arith;
            further = omega arith;
            inside = omega arith;
          }

-- THE LEAVES ALL TOGETHER
abbrev pub total : List Placed → ℕ
total [] = 0
total (placed i t ∷ ps) = leaves_of t + total ps

-- where the leaves nowhere pass the limit, all together they do not
pub passed_total : (n : ℕ) (ps : List Placed) → n ≤ leaf_limit → passing n ps ≡ none → n + total ps ≤ leaf_limit
passed_total n [] h e = omega arith
passed_total n (placed i t ∷ ps) h e = go (ltb leaf_limit (n + leaves_of t)) refl (λ k f. passed_total (n + leaves_of t) ps k f) e
  where
    go : (b : Bool) → ltb leaf_limit (n + leaves_of t) ≡ b → (n + leaves_of t ≤ leaf_limit → passing (n + leaves_of t) ps ≡ none → n + leaves_of t + total ps ≤ leaf_limit)
        → ◌≡◌ {A = Option Refusal} (cond b (some (at i LeavesMany)) (passing (n + leaves_of t) ps)) none → n + (leaves_of t + total ps) ≤ leaf_limit
    go true l rest e = no_some (sym e)
    go false l rest e = omega (arith, rest (ltb-false leaf_limit (n + leaves_of t) l) e)

-- leaves that all together do not pass the limit pass it nowhere
pub passing-none : (n : ℕ) (ps : List Placed) → n + total ps ≤ leaf_limit → passing n ps ≡ none
passing-none n [] h = refl
passing-none n (placed i t ∷ ps) h =
    let z : n + leaves_of t ≤ leaf_limit = omega arith in
    rw (le-ltb leaf_limit (n + leaves_of t) z) (passing-none (n + leaves_of t) ps (omega arith))
