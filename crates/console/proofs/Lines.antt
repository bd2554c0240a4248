-- Lines that are handed on one after the other.
use Rattle.std.proofs.Common.{◌≡◌, ControlFlow, Continue, ℕ, ◌<◌, List, [], ◌∷◌, length, map, refl, sym, Ok, Err, None, Some, arith, ◌==◌, ◌-◌, ◌+◌, take, drop, true, false}
use Rattle.std.specs.Prelude.{Result, Option, MatchOption, OnOk}
use Rattle.std.specs.Option.{unwrap_or}
use Rattle.std.specs.Str.{bytes_eq}
use Rattle.std.specs.Fn.{Mut, CalledAt}
use Rattle.std.specs.List.{FoldsTo, slice_split}
use Rattle.std.specs.Iterator.{TryForEachTurn, TryCallsOnEach}
use Rattle.std.proofs.lemmas.Iterator.{YieldsList}
use Rattle.std.proofs.lemmas.Iterator.Consumers.{YieldsList-end}
use Rattle.std.proofs.lemmas.Bool.Decides.{nat_tests}
use denote.Ref.{Bor}
use Rattle.console.specs.Lines.{without_end, lines, DoneOn}

module _ {S F E X : Type 0} (steps : S → Option (Bor (List ℕ)) → S → Type 0) (g : Mut F (Bor (List ℕ) × Unit {0}) (Result (Unit {0}) E))
    (branches : Result (Unit {0}) E → ControlFlow X (Unit {0}) → Type 0) (resumes : X → Result (Unit {0}) E → Type 0)
    (goes : (v : Result (Unit {0}) E) → branches v (Continue tt) → v ≡ Ok tt) (breaks : (e : X) → resumes e (Ok tt) → ⊥) where
  -- turns at references, after which it goes on, are calls at what they show, answered by `Ok`
  pub at_shown : (f last : F) (shown : List (Bor (List ℕ))) → FoldsTo (TryForEachTurn g branches) f shown last
      → FoldsTo (λ before line after. CalledAt g before line (Ok tt) after) f (map (λ line. line.now) shown) last
  at_shown f last [] e = e
  at_shown f last (line ∷ more) (between, (v, c, b), e) = (between, record { shown = line; shows = refl; called = rw (goes v b) at c }, at_shown between last more e)

  -- where all lines have been handed on, each was done
  pub all_done : (s u : S) (f : F) (r : Result (Unit {0}) E) (all : List (List ℕ)) → TryCallsOnEach steps g branches resumes s f r u
      → YieldsList steps (λ line. line.now) s all → OnOk r (DoneOn g f all)
  all_done s u f (Err e) all ran road = tt
  all_done s u f (Ok tt) all (shown, None, last, (t, y, end), folds, b) road =
      (last, rw (sym (YieldsList-end road shown t y None u refl end).0) (at_shown f last shown folds))
  all_done s u f (Ok tt) all (shown, Some x, last, y, folds, (v, h, e, c, b, z)) road = absurd (breaks e z)

-- what is left once the line feed at the end is taken off
pub without : (bytes : List ℕ) (stripped : Option (Bor (List ℕ))) (rest whole : Bor (List ℕ)) → whole.now ≡ bytes → rest ≡ unwrap_or stripped whole
    → MatchOption stripped (bytes_eq (drop (length bytes - 1) bytes) (10 ∷ []) ≡ false)
    (λ front. (bytes_eq (drop (length bytes - 1) bytes) (10 ∷ []) ≡ true) × (front.now ≡ take (length bytes - 1) bytes) × (length front.now + 1 ≡ length bytes))
    → without_end bytes ≡ rest.now
without bytes None rest whole same e none = rw (none, e, same) refl
without bytes (Some front) rest whole same e (some, f, n) = rw (some, e, f) refl

pub lines_some : (bytes : List ℕ) (rest : List ℕ) → 0 < length bytes → without_end bytes ≡ rest → lines bytes ≡ slice_split (λ b. b == 10) rest
lines_some bytes rest h e =
    let some : (length bytes == 0) ≡ false = grind (arith, nat_tests) in
    rw (some, e) refl
