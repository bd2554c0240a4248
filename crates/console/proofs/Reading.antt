-- Laws of shown readings.
use Rattle.std.proofs.Common.{◌≡◌, ℕ, ◌+◌, ◌<◌, List, [], ◌∷◌, ◌++◌, refl, ◌∙◌, ap, arith, zero, suc, append-nil}
use Rattle.std.specs.Prelude.{decimal}
use Rattle.std.proofs.lemmas.Grind.{common_steps}
use Rattle.std.proofs.lemmas.Bool.Decides.{nat_tests}
use Rattle.std.proofs.lemmas.List.FromFn.{map-range_with_len_more}
use Rattle.console.specs.Reading.{entry_or_none, first_entries, entry_shown, listed, shown}

-- one number more, after a comma
listed-more : (q : ℕ) (qs : List ℕ) (last : ℕ) → listed ((q ∷ qs) ++ last ∷ []) ≡ listed (q ∷ qs) ++ 44 ∷ decimal last
listed-more q qs last = grind (arith, common_steps)

-- one entry more
pub listed_more : (i : ℕ) (mapping : List ℕ)
    → listed (first_entries (i + 1) mapping) ≡ listed (first_entries i mapping) ++ entry_shown i mapping
listed_more zero mapping = append-nil _
listed_more (suc i) mapping =
    let e : entry_shown (suc i) mapping ≡ 44 ∷ decimal (entry_or_none mapping (suc i)) = grind (arith, nat_tests) in
    rw e (ap listed (map-range_with_len_more (entry_or_none mapping) 0 (suc i) (suc i) (omega arith)) ∙ listed-more _ _ _)

pub shown_some : (n : ℕ) (mapping : List ℕ) → 0 < n → shown (first_entries n mapping) ≡ listed (first_entries n mapping)
shown_some zero mapping h = absurd (omega arith)
shown_some (suc n) mapping h = refl
