-- The outcomes of the four name calls are settled: any two ends are equal, and every input has one.
use mathlib.Core.Path.{◌≡◌, refl, ap, sym, ◌∙◌}
use mathlib.Core.Option.{Option, none, some}
use mathlib.Core.List.{List, []}
use Rattle.std.specs.Prelude.{Option as Lent, None, Some}
use Prim.Native.Nat.{ℕ, ◌+◌}
use lib.ListN.{length}
use Rattle.rules.specs.Limits.{wiped, filled}
use Rattle.rules.specs.Numbers.{done}
use Rattle.rules.specs.Grounds.{first_of}
use Rattle.rules.proofs.Grounds.{some_eq, front_part, settled, ends}
use Rattle.mapping.specs.Entries.{stored, given}
use Rattle.language.specs.Tree.{size}
use Rattle.language.specs.Reading.{Pattern, Reading}
use Rattle.language.specs.Search.{accepts, is_reading, next_reading}
use Rattle.language.specs.Local.{Numbered}
use Rattle.language.proofs.Order.{least_unique}
use Rattle.language.proofs.Decides.{itself, either}
use Rattle.language.proofs.Search.{Next, moved, stuck}
use Rattle.language.proofs.Computed.{accepts_decides, reading_decides, first-right, first-none, next-right}
use Rattle.sheet.specs.Refusals.{sheet_grounds}
use Rattle.sheet.specs.Stands.{stands_for}
use Rattle.sheet.proofs.Accepted.{accepted_meant, standing}
use Rattle.reader.specs.Refusals.{name_grounds, call_grounds, mapping_grounds, accept_grounds}
use Rattle.reader.specs.Outcome.{End, refused_with, answered_with, AcceptWent, accepted, not_in, AcceptCall, FirstWent, found, absent, FirstCall, NextWent, found_next, no_more, unread, NextCall, CheckWent, right, wrong, CheckCall}

-- the sheet of a call that is not refused stands for a pattern numbered from 1
pub pattern_of_lem : (sheet name : List ℕ) (lent : Lent ℕ) (work : List ℕ) → first_of (call_grounds sheet name lent work) ≡ none
    → (P : Pattern) × (stands_for sheet ≡ some P) × Numbered 1 (1 + size P.tree) P.tree
pattern_of_lem sheet name lent work e =
    let (P, m) = accepted_meant sheet (front_part (sheet_grounds sheet) (name_grounds name lent work) e) in
    (P, m.stands, (standing sheet P m.stands).numbered)

module _ (sheet name mapping work : List ℕ) where
  same_pattern : {P Q : Pattern} → stands_for sheet ≡ some P → stands_for sheet ≡ some Q → P ≡ Q
  same_pattern e f = some_eq (sym e ∙ f)

  -- ANY TWO ENDS ARE EQUAL
  accept-same : (s s' : End) → AcceptWent sheet name work s → AcceptWent sheet name work s' → s ≡ s'
  accept-same s s' (accepted x d) (accepted y e) = refl
  accept-same s s' (accepted x d) (not_in y n) = absurd (n (rw (same_pattern x y) at d))
  accept-same s s' (not_in x n) (accepted y d) = absurd (n (rw (same_pattern y x) at d))
  accept-same s s' (not_in x n) (not_in y m) = refl

  first-same : (s s' : End) → FirstWent sheet name mapping work s → FirstWent sheet name mapping work s' → s ≡ s'
  first-same s s' (found x a) (found y b) = ap (λ (r : List ℕ). answered_with name work done (filled mapping (stored r))) (least_unique a (rw (same_pattern y x) at b))
  first-same s s' (found {r = r} x a) (absent y n) = absurd (n r (rw (same_pattern x y) at a.has))
  first-same s s' (absent x n) (found {r = r} y a) = absurd (n r (rw (same_pattern y x) at a.has))
  first-same s s' (absent x n) (absent y m) = refl

  next-same : (s s' : End) → NextWent sheet name mapping work s → NextWent sheet name mapping work s' → s ≡ s'
  next-same s s' (unread x n) (unread y m) = refl
  next-same s s' (unread x n) (found_next y g a) = absurd (n (rw (same_pattern y x) at g))
  next-same s s' (unread x n) (no_more y g a) = absurd (n (rw (same_pattern y x) at g))
  next-same s s' (found_next x g a) (unread y n) = absurd (n (rw (same_pattern x y) at g))
  next-same s s' (found_next x g a) (found_next y h b) = ap (λ (r : List ℕ). answered_with name work done (filled mapping (stored r))) (least_unique a (rw (same_pattern y x) at b))
  next-same s s' (found_next {r = r} x g a) (no_more y h n) = absurd (n r (rw (same_pattern x y) at a.has))
  next-same s s' (no_more x g a) (unread y n) = absurd (n (rw (same_pattern x y) at g))
  next-same s s' (no_more x g n) (found_next {r = r} y h a) = absurd (n r (rw (same_pattern y x) at a.has))
  next-same s s' (no_more x g a) (no_more y h b) = refl

  check-same : (s s' : End) → CheckWent sheet name mapping work s → CheckWent sheet name mapping work s' → s ≡ s'
  check-same s s' (right x g) (right y h) = refl
  check-same s s' (right x g) (wrong y n) = absurd (n (rw (same_pattern x y) at g))
  check-same s s' (wrong x n) (right y g) = absurd (n (rw (same_pattern y x) at g))
  check-same s s' (wrong x n) (wrong y m) = refl

  pub accept_settled : (s s' : End) → AcceptCall sheet name work s → AcceptCall sheet name work s' → s ≡ s'
  accept_settled = settled accept-same

  pub first_settled : (s s' : End) → FirstCall sheet name mapping work s → FirstCall sheet name mapping work s' → s ≡ s'
  first_settled = settled first-same

  pub next_settled : (s s' : End) → NextCall sheet name mapping work s → NextCall sheet name mapping work s' → s ≡ s'
  next_settled = settled next-same

  pub check_settled : (s s' : End) → CheckCall sheet name mapping work s → CheckCall sheet name mapping work s' → s ≡ s'
  check_settled = settled check-same

  -- EVERY INPUT HAS ONE
  pub accept-ends : (s : End) × AcceptCall sheet name work s
  accept-ends = ends (first_of (accept_grounds sheet name work)) (refused_with [] work) (AcceptWent sheet name work) go
    where
      go : first_of (accept_grounds sheet name work) ≡ none → (s : End) × AcceptWent sheet name work s
      go e =
          let (P, x, n) = pattern_of_lem sheet name None work e in
          either (accepts P name) (accepts_decides P n name) (λ d. (_, accepted x d)) (λ d. (_, not_in x d))

  pub first_ends : (s : End) × FirstCall sheet name mapping work s
  first_ends = ends (first_of (mapping_grounds sheet name mapping work)) (refused_with (wiped mapping) work) (FirstWent sheet name mapping work) go
    where
      go : first_of (mapping_grounds sheet name mapping work) ≡ none → (s : End) × FirstWent sheet name mapping work s
      go e =
          let (P, x, n) = pattern_of_lem sheet name (Some (length mapping)) work e in
          either (accepts P name) (itself (accepts P name)) (λ h. (_, found x (first-right P n name h))) (λ h. (_, absent x (first-none P n name h)))

  pub next-ends : (s : End) × NextCall sheet name mapping work s
  next-ends = ends (first_of (mapping_grounds sheet name mapping work)) (refused_with (wiped mapping) work) (NextWent sheet name mapping work) go
    where
      at : (P : Pattern) → stands_for sheet ≡ some P → Reading P name (given name mapping) → (o : Option (List ℕ)) → Next (Reading P name) (given name mapping) o
          → (s : End) × NextWent sheet name mapping work s
      at P x g (some v) (moved l) = (_, found_next x g l)
      at P x g none (stuck still) = (_, no_more x g still)

      go : first_of (mapping_grounds sheet name mapping work) ≡ none → (s : End) × NextWent sheet name mapping work s
      go e =
          let (P, x, n) = pattern_of_lem sheet name (Some (length mapping)) work e in
          let w = given name mapping in
          either (is_reading P name w) (reading_decides P n name w) (λ g. at P x g (next_reading P name w) (next-right P n name w g)) (λ g. (_, unread x g))

  pub check-ends : (s : End) × CheckCall sheet name mapping work s
  check-ends = ends (first_of (mapping_grounds sheet name mapping work)) (refused_with mapping work) (CheckWent sheet name mapping work) go
    where
      go : first_of (mapping_grounds sheet name mapping work) ≡ none → (s : End) × CheckWent sheet name mapping work s
      go e =
          let (P, x, n) = pattern_of_lem sheet name (Some (length mapping)) work e in
          either (is_reading P name (given name mapping)) (reading_decides P n name (given name mapping)) (λ g. (_, right x g)) (λ g. (_, wrong x g))
