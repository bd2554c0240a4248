-- Demand 3 holds.
use mathlib.Core.Path.{◌≡◌, refl, ap, sym, ◌∙◌}
use mathlib.Core.Bool.{Bool}
use mathlib.Core.Option.{none, some}
use mathlib.Core.List.{List, [], ◌∷◌}
use Rattle.std.specs.Prelude.{Some}
use Prim.Native.Nat.{ℕ, suc, ◌*◌, ◌≤◌}
use lib.ListN.{length}
use borrow.Author.Tests.{le-ltb}
use Rattle.rules.specs.Limits.{name_limit, area_for, filled}
use Rattle.rules.specs.Grounds.{first_of}
use Rattle.rules.proofs.Grounds.{some_eq, later_part}
use Rattle.mapping.specs.Entries.{entry_size, stored, given}
use Rattle.mapping.proofs.Entries.{entries-filled}
use Rattle.language.specs.Reading.{Pattern, Spells, Reading}
use Rattle.language.specs.Order.{FirstReading, NextReading, NoReading, NoMore}
use Rattle.language.specs.Listing.{Onward, Listing}
use Rattle.language.proofs.Order.{least_unique}
use Rattle.language.proofs.Whole.{whole_listing, all_readings}
use Rattle.sheet.specs.Refusals.{sheet_grounds, sheet_refusal}
use Rattle.sheet.specs.Stands.{stands_for}
use Rattle.sheet.proofs.Accepted.{standing}
use Rattle.reader.specs.Refusals.{name_grounds, mapping_grounds}
use Rattle.reader.specs.Outcome.{End, answered_with, FirstWent, found, absent, NextWent, found_next, no_more, unread}
use Rattle.claims.specs.Demand3.{Enough, Gives, GoesOn, Asking, Demand3}
use Rattle.claims.proofs.Demand2.{went}

-- a reading is as long as its name
spells-length : (takes : ℕ → ℕ → Bool) (w name : List ℕ) → Spells takes w name → length w ≡ length name
spells-length takes [] [] s = refl
spells-length takes [] (b ∷ name) s = absurd s
spells-length takes (p ∷ w) [] s = absurd s
spells-length takes (p ∷ w) (b ∷ name) (h, s) = ap suc (spells-length takes w name s)

module _ (sheet name : List ℕ) (P : Pattern) (fine : sheet_refusal sheet ≡ none) (small : length name ≤ name_limit) (e : stands_for sheet ≡ some P) where
  -- nothing is refused where the buffers are long enough
  none-refused : (mapping work : List ℕ) → Enough name mapping work → first_of (mapping_grounds sheet name mapping work) ≡ none
  none-refused mapping work b =
      later_part (sheet_grounds sheet) (name_grounds name (Some (length mapping)) work) fine
      ∙ rw (le-ltb name_limit (length name) small, le-ltb (length mapping) (entry_size * length name) b.mapped, le-ltb (length work) (area_for name) b.area) refl

  this_pattern : {Q : Pattern} → stands_for sheet ≡ some Q → Q ≡ P
  this_pattern x = some_eq (sym x ∙ e)

  -- a reading that fills the mapping is given again by it
  given-again : (mapping r : List ℕ) → Reading P name r → given name (filled mapping (stored r)) ≡ r
  given-again mapping r x = entries-filled (length name) mapping r (spells-length P.takes r name x.spells)

  gives : (mapping work r : List ℕ) → Reading P name r → Gives name mapping r (answered_with name work 0 (filled mapping (stored r)))
  gives mapping work r x = record { number = refl; buffer = refl; again = given-again mapping r x }

  first_gives : (r : List ℕ) → FirstReading P name r → (mapping work : List ℕ) (s : End) → FirstWent sheet name mapping work s → Gives name mapping r s
  first_gives r f mapping work s (found x g) = rw (← least_unique f (rw (this_pattern x) at g)) (gives mapping work r f.has)
  first_gives r f mapping work s (absent x n) = absurd (n r (rw (← this_pattern x) at f.has))

  first_says : NoReading P name → (mapping work : List ℕ) (s : End) → FirstWent sheet name mapping work s → s.number ≡ 1
  first_says n mapping work s (found {r = r} x f) = absurd (n r (rw (this_pattern x) at f.has))
  first_says n mapping work s (absent x m) = refl

  next_gives : (r q : List ℕ) → Reading P name r → NextReading P name r q → (mapping work : List ℕ) (s : End) → given name mapping ≡ r → NextWent sheet name mapping work s → Gives name mapping q s
  next_gives r q y f mapping work s z (found_next x g h) = rw (← least_unique f (rw (this_pattern x, z) at h)) (gives mapping work q f.has.has)
  next_gives r q y f mapping work s z (no_more x g n) = absurd (n q (rw (← this_pattern x, ← z) at f.has))
  next_gives r q y f mapping work s z (unread x n) = absurd (n (rw (← this_pattern x, ← z) at y))

  next_says : (r : List ℕ) → Reading P name r → NoMore P name r → (mapping work : List ℕ) (s : End) → given name mapping ≡ r → NextWent sheet name mapping work s → s.number ≡ 1
  next_says r y f mapping work s z (found_next {r = q} x g h) = absurd (f q (rw (this_pattern x, z) at h.has))
  next_says r y f mapping work s z (no_more x g n) = refl
  next_says r y f mapping work s z (unread x n) = absurd (n (rw (← this_pattern x, ← z) at y))

  goes_on : (r : List ℕ) (qs : List (List ℕ)) → Reading P name r → Onward P name r qs → GoesOn sheet name r qs
  goes_on r [] y f = λ mapping work s b z c. next_says r y f mapping work s z (went s (none-refused mapping work b) c)
  goes_on r (q ∷ qs) y (f, rest) =
      (λ mapping work s b z c. next_gives r q y f mapping work s z (went s (none-refused mapping work b) c), goes_on q qs f.has.has rest)

  asking : (rs : List (List ℕ)) → Listing P name rs → Asking sheet name rs
  asking [] f = λ mapping work s b c. first_says f mapping work s (went s (none-refused mapping work b) c)
  asking (r ∷ rs) (f, rest) =
      (λ mapping work s b c. first_gives r f mapping work s (went s (none-refused mapping work b) c), goes_on r rs f.has rest)

pub demand_3 : Demand3
demand_3 sheet name P fine small e =
    let (rs, w) = all_readings P (standing sheet P e).numbered name in
    (rs, asking sheet name P fine small e rs (whole_listing P name rs w), w)
