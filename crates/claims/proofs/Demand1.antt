-- Demand 1 holds.
use mathlib.Core.Path.{◌≡◌, refl, ap, sym, ◌∙◌}
use mathlib.Core.Logic.{◌↔◌}
use mathlib.Core.Option.{Option, none, some}
use mathlib.Core.List.{List, []}
use Prim.Native.Nat.{ℕ, ◌≤◌, ◌<◌}
use native.Mathlib.Omega.{arith}
use lib.ListN.{length}
use Rattle.rules.specs.Limits.{open_limit, wiped}
use Rattle.rules.specs.Numbers.{done, text_long, sheet_short, repeat_fault, sheet_form, work_short}
use Rattle.rules.specs.Fault.{Refusal, text_fault_number, at, RefusedAs}
use Rattle.rules.specs.Grounds.{first_of, Call, refused, answered}
use Rattle.rules.proofs.Grounds.{some_eq, no_some}
use Rattle.language.specs.Tree.{Tree}
use Rattle.lexer.specs.Tokens.{tokens_from}
use Rattle.sheet.specs.Make.{sheet_of}
use Rattle.text.specs.Refusals.{text_refusal}
use Rattle.text.specs.Outcome.{SheetEnd, TreeOfText, made, short, SheetCall}
use Rattle.text.proofs.Parsing.{unambiguous}
use Rattle.text.proofs.Numbers.{text_number}
use Rattle.text.proofs.Outcome.{sheet_settled, sheet-ends}
use Rattle.reader.specs.Refusals.{mapping_grounds, accept_grounds}
use Rattle.reader.specs.Outcome.{End, refused_with, cleared, AcceptWent, accepted, not_in, FirstWent, found, absent, NextWent, found_next, no_more, unread, CheckWent, right, wrong}
use Rattle.reader.proofs.Answers.{answer_known}
use Rattle.reader.proofs.Settled.{accept_settled, accept-ends, first_settled, first_ends, next_settled, next-ends, check_settled, check-ends}
use Rattle.claims.specs.Demand1.{Definite, NameCall, TextCall, Demand1}

-- an answer that is no refusal clears the rows, and its number is none of 20 to 32
record Answered (name work : List ℕ) (s : End) : Type 0 where
  clear : s.work ≡ cleared name work
  beside : (k : ℕ) → sheet_form ≤ k → k ≤ work_short → s.number ≡ k → ⊥

module _ (grounds : List (Option ℕ)) (kept name work : List ℕ) (went : End → Type 0) (answers : (s : End) → went s → Answered name work s) where
  abbrev Outcome : End → Type 0
  Outcome = Call (first_of grounds) (refused_with kept work) went

  name_call : Definite Outcome → NameCall grounds kept name work Outcome
  name_call d = record { definite = d; exactly = exactly; keeps = keeps; clears = clears }
    where
      exactly : (s : End) → Outcome s → (k : ℕ) → sheet_form ≤ k → k ≤ work_short → (s.number ≡ k) ↔ (first_of grounds ≡ some k)
      exactly s (refused e) k a b = (λ z. e ∙ ap some z, λ f. some_eq (sym e ∙ f))
      exactly s (answered e w) k a b = (λ z. absurd ((answers s w).beside k a b z), λ f. no_some (sym e ∙ f))

      keeps : (s : End) → Outcome s → (k : ℕ) → first_of grounds ≡ some k → (s.mapping ≡ kept) × (s.work ≡ work)
      keeps s (refused e) k f = (refl, refl)
      keeps s (answered e w) k f = no_some (sym e ∙ f)

      clears : (s : End) → Outcome s → first_of grounds ≡ none → s.work ≡ cleared name work
      clears s (refused e) f = no_some (sym f ∙ e)
      clears s (answered e w) f = (answers s w).clear

module _ (sheet name mapping work : List ℕ) where
  accept_answers : (s : End) → AcceptWent sheet name work s → Answered name work s
  accept_answers s (accepted x d) = record { clear = refl; beside = λ k a b e. omega arith }
  accept_answers s (not_in x d) = record { clear = refl; beside = λ k a b e. omega arith }

  first_answers : (s : End) → FirstWent sheet name mapping work s → Answered name work s
  first_answers s (found x r) = record { clear = refl; beside = λ k a b e. omega arith }
  first_answers s (absent x n) = record { clear = refl; beside = λ k a b e. omega arith }

  next_answers : (s : End) → NextWent sheet name mapping work s → Answered name work s
  next_answers s (found_next x g r) = record { clear = refl; beside = λ k a b e. omega arith }
  next_answers s (no_more x g n) = record { clear = refl; beside = λ k a b e. omega arith }
  next_answers s (unread x n) = record { clear = refl; beside = λ k a b e. omega arith }

  check_answers : (s : End) → CheckWent sheet name mapping work s → Answered name work s
  check_answers s (right x g) = record { clear = refl; beside = λ k a b e. omega arith }
  check_answers s (wrong x n) = record { clear = refl; beside = λ k a b e. omega arith }

text_call : (text buffer : List ℕ) → TextCall text buffer
text_call text buffer =
    record {
      definite = record { one = sheet-ends text buffer; same = sheet_settled text buffer };
      exactly = exactly;
      short = too_short;
      wipes = wipes;
    }
  where
    exactly : (s : SheetEnd) → SheetCall text buffer s → (k i : ℕ) → text_long ≤ k → k ≤ repeat_fault → (k ≡ sheet_short → ⊥)
        → ((s.number ≡ k) × (s.second ≡ i)) ↔ RefusedAs (text_refusal text) k i
    exactly s (refused {k = f} e) k i a b c = (
      λ (m, n). (f.fault, m, e ∙ ap (λ (i : ℕ). some (at i f.fault)) n),
      λ (x, m, g). let z = some_eq (sym e ∙ g) in (ap (λ (f : Refusal). text_fault_number f.fault) z ∙ m, ap (λ (f : Refusal). f.place) z),
    )
    exactly s (answered e (made p h)) k i a b c = (λ (m, n). absurd (omega arith), λ (x, m, g). no_some (sym e ∙ g))
    exactly s (answered e (short p h)) k i a b c = (λ (m, n). absurd (c (sym m)), λ (x, m, g). no_some (sym e ∙ g))

    too_short : (s : SheetEnd) → SheetCall text buffer s
        → (s.number ≡ sheet_short) ↔ ((text_refusal text ≡ none) × (t : Tree ℕ) × TreeOfText text t × (length buffer < length (sheet_of t)))
    too_short s (refused {k = f} e) = (λ z. absurd ((text_number text f e).other z), λ x. no_some (sym x.0 ∙ e))
    too_short s (answered e (made {t = t} p h)) = (λ z. absurd (omega arith), λ x. absurd (longer x.1 x.2 x.3))
      where
        longer : (u : Tree ℕ) → TreeOfText text u → length buffer < length (sheet_of u) → ⊥
        longer u q l = omega (arith, ap (λ (v : Tree ℕ). length (sheet_of v)) (unambiguous open_limit (tokens_from text 0) u t q p))
    too_short s (answered e (short {t = t} p h)) = (λ z. (e, t, p, h), λ x. refl)

    wipes : (s : SheetEnd) → SheetCall text buffer s → (s.number ≡ done → ⊥) → s.sheet ≡ wiped buffer
    wipes s (refused e) n = refl
    wipes s (answered e (made p h)) n = absurd (n refl)
    wipes s (answered e (short p h)) n = refl

pub demand_1 : Demand1
demand_1 =
    record {
      sheet = text_call;
      accept = λ sheet name work.
          name_call (accept_grounds sheet name work) [] name work (AcceptWent sheet name work) (accept_answers sheet name [] work)
          (record { one = accept-ends sheet name [] work; same = accept_settled sheet name [] work });
      first = λ sheet name mapping work.
          name_call (mapping_grounds sheet name mapping work) (wiped mapping) name work (FirstWent sheet name mapping work) (first_answers sheet name mapping work)
          (record { one = first_ends sheet name mapping work; same = first_settled sheet name mapping work });
      next = λ sheet name mapping work.
          name_call (mapping_grounds sheet name mapping work) (wiped mapping) name work (NextWent sheet name mapping work) (next_answers sheet name mapping work)
          (record { one = next-ends sheet name mapping work; same = next_settled sheet name mapping work });
      check = λ sheet name mapping work.
          name_call (mapping_grounds sheet name mapping work) mapping name work (CheckWent sheet name mapping work) (check_answers sheet name mapping work)
          (record { one = check-ends sheet name mapping work; same = check_settled sheet name mapping work });
      apart = answer_known;
    }
