-- What "next" says after "no more".
use mathlib.Core.Path.{◌≡◌, refl, sym, ◌∙◌}
use mathlib.Core.Option.{none, some}
use mathlib.Core.List.{List, [], ◌∷◌}
use Prim.Native.Nat.{ℕ, ◌+◌, ◌*◌, ◌≤◌}
use native.Mathlib.Omega.{arith}
use lib.ListN.{length, replicate, length-replicate}
use Rattle.std.specs.Prelude.{Some}
use Rattle.rules.specs.Limits.{wiped}
use Rattle.rules.specs.Numbers.{no, no_reading}
use Rattle.rules.specs.Grounds.{first_of}
use Rattle.rules.proofs.Grounds.{some_eq}
use Rattle.mapping.specs.Entries.{entry_size, given}
use Rattle.mapping.proofs.Entries.{entries-length, entries-wiped}
use Rattle.language.specs.Tree.{size}
use Rattle.language.specs.Reading.{Pattern, Language, Reading}
use Rattle.language.specs.Order.{Above}
use Rattle.language.specs.Local.{Numbered, Local}
use Rattle.language.proofs.Local.{local, first_in}
use Rattle.language.proofs.Readings.{in_language}
use Rattle.sheet.specs.Stands.{stands_for}
use Rattle.sheet.proofs.Accepted.{standing}
use Rattle.reader.specs.Refusals.{mapping_grounds}
use Rattle.reader.specs.Outcome.{End, NextWent, found_next, no_more, unread}
use Rattle.reader.proofs.Tests.{grounds_fit}
use Rattle.claims.specs.Lines.{AfterNoMore}
use Rattle.claims.proofs.Demand2.{went}

-- zeros are no positions
zero_first : (P : Pattern) → Numbered 1 (1 + size P.tree) P.tree → (w : List ℕ) → Local P.tree (0 ∷ w) → ⊥
zero_first P n w (f, a) = omega (arith, first_in P.tree 1 (1 + size P.tree) 0 n f)

module _ (sheet name mapping work : List ℕ) (b : ℕ) (passed : first_of (mapping_grounds sheet (b ∷ name) (wiped mapping) work) ≡ none) where
  -- there is room, so that what is given is a zero for each byte
  zeros : given (b ∷ name) (wiped mapping) ≡ replicate (length (b ∷ name)) 0
  zeros = entries-wiped (length (b ∷ name)) mapping room
    where
      room : entry_size * length (b ∷ name) ≤ length mapping
      room = rw (length-replicate {A = ℕ} (length mapping) 0) at (grounds_fit {sheet = sheet} {name = b ∷ name} {lent = Some (length (wiped mapping))} {work = work} passed).held

  none-given : (P : Pattern) → stands_for sheet ≡ some P → Reading P (b ∷ name) (given (b ∷ name) (wiped mapping)) → ⊥
  none-given P x r = zero_first P (standing sheet P x).numbered (replicate (length name) 0) (local (rw zeros at r).among)

  again : (s : End) → NextWent sheet (b ∷ name) (wiped mapping) work s → s.number ≡ no_reading
  again s (found_next {P = P} x g r) = absurd (none-given P x g)
  again s (no_more {P = P} x g n) = absurd (none-given P x g)
  again s (unread x n) = refl

-- the empty name has just the empty reading
only-empty : (P : Pattern) (w : List ℕ) → Reading P [] w → w ≡ []
only-empty P [] r = refl
only-empty P (p ∷ w) r = absurd r.spells

none_above : (P : Pattern) (v : List ℕ) → Above (Reading P []) [] v → ⊥
none_above P [] a = a.above
none_above P (p ∷ v) a = a.has.spells

reads-empty : (P : Pattern) → Language P [] → Reading P [] []
reads-empty P d = let (w, r) = (in_language P []).0 d in rw (only-empty P w r) at r

nothing_given : (mapping : List ℕ) → given [] mapping ≡ []
nothing_given mapping = go (given [] mapping) (entries-length 0 mapping (omega arith))
  where
    go : (w : List ℕ) → length w ≡ 0 → w ≡ []
    go [] e = refl
    go (p ∷ w) e = absurd (omega arith)

at-empty : (sheet mapping work : List ℕ) (P : Pattern) (s : End) → stands_for sheet ≡ some P → Language P [] → NextWent sheet [] mapping work s → s.number ≡ no
at-empty sheet mapping work P s e d (found_next {P = Q} {r = r} x g h) = absurd (none_above Q r (rw (nothing_given mapping) at h.has))
at-empty sheet mapping work P s e d (no_more x g n) = refl
at-empty sheet mapping work P s e d (unread x n) = absurd (n (rw (nothing_given mapping) (rw (some_eq (sym e ∙ x)) at (reads-empty P d))))

pub after-no_more : AfterNoMore
after-no_more =
    record {
      again = λ sheet name mapping work b s e c. again sheet name mapping work b e s (went s e c);
      empty = λ sheet mapping work P s e x d c. at-empty sheet mapping work P s x d (went s e c);
    }
