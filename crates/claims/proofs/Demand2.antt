-- Demand 2 holds.
use mathlib.Core.Path.{◌≡◌, refl, sym, ◌∙◌}
use mathlib.Core.Option.{Option, none, some}
use mathlib.Core.List.{List}
use Prim.Native.Nat.{ℕ}
use native.Mathlib.Omega.{arith}
use Rattle.rules.specs.Grounds.{Call, refused, answered}
use Rattle.rules.proofs.Grounds.{some_eq, no_some}
use Rattle.language.specs.Reading.{Pattern}
use Rattle.sheet.specs.Stands.{stands_for}
use Rattle.sheet.proofs.Accepted.{accepted_meant}
use Rattle.reader.specs.Outcome.{End, AcceptWent, accepted, not_in, FirstWent, found, absent}
use Rattle.claims.specs.Demand2.{Accepts, Finds, Demand2}

-- where nothing is refused, a call went as its search says
pub went : {S : Type 0} {outcome : S → Type 0} {kept : ℕ → S} {reason : Option ℕ} (s : S) → reason ≡ none → Call reason kept outcome s → outcome s
went s e (refused f) = no_some (sym e ∙ f)
went s e (answered f w) = w

module _ (sheet : List ℕ) (P : Pattern) (e : stands_for sheet ≡ some P) where
  accepts : (name work : List ℕ) (s : End) → AcceptWent sheet name work s → Accepts P name s
  accepts name work s (accepted x d) =
      let d' = rw (some_eq (sym x ∙ e)) at d in
      record { member = (λ n. d', λ l. refl); other = (λ n. absurd (omega arith), λ n. absurd (n d')) }
  accepts name work s (not_in x n) =
      let n' = rw (some_eq (sym x ∙ e)) at n in
      record { member = (λ z. absurd (omega arith), λ l. absurd (n' l)); other = (λ z. n', λ z. refl) }

  finds : (name mapping work : List ℕ) (s : End) → FirstWent sheet name mapping work s → Finds P name mapping s
  finds name mapping work s (found {r = r} x f) =
      let f' = rw (some_eq (sym x ∙ e)) at f in
      record { exists = (λ z. (r, f'.has), λ z. refl); least = λ z. (r, f', refl); other = (λ z. absurd (omega arith), λ n. absurd (n r f'.has)); wipes = λ z. absurd (omega arith) }
  finds name mapping work s (absent x n) =
      let n' = rw (some_eq (sym x ∙ e)) at n in
      record { exists = (λ z. absurd (omega arith), λ (w, r). absurd (n' w r)); least = λ z. absurd (omega arith); other = (λ z. n', λ z. refl); wipes = λ z. refl }

pub demand_2 : Demand2
demand_2 =
    record {
      stands = λ sheet e. let (P, m) = accepted_meant sheet e in (P, m.stands);
      accept = λ sheet name work P s e x c. accepts sheet P x name work s (went s e c);
      first = λ sheet name mapping work P s e x c. finds sheet P x name mapping work s (went s e c);
    }
