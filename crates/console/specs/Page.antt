-- What has gone out, and what is still on a page.
use Rattle.std.specs.Prelude.{◌≡◌, ℕ, ◌<◌, List, [], take, None, Some, Result, MatchResult, IsNone}
use Rattle.std.specs.declared.option.Option.{Option}
use Rattle.std.specs.Io.KnownBytes.{append_known, Appends}
use Rattle.console.specs.declared.page.Page.{Page}

-- what is taken of a page; nothing is after a write that failed
abbrev pub taken_of : {W : Type 0} {N : ℕ} → Page W N → List ℕ
taken_of page = elim page.taken [ None ↦ [] | Some n ↦ take n page.bytes ]

-- all that was put: the bytes that the writer holds, where they are known, and then what is taken of the page
abbrev pub told : {W : Type 0} {N : ℕ} → (W → Option (List ℕ)) → Page W N → Option (List ℕ)
told contents page = append_known (contents page.out.now) (taken_of page)

-- bytes were put; on a lost page only none are
pub record Puts {W : Type 0} {N : ℕ} (contents : W → Option (List ℕ)) (before after : Page W N) (bytes : List ℕ) : Type 0 where
  pub same_writer : after.out.ghost_name ≡ before.out.ghost_name
  pub told : 0 < N → Appends (told contents before) (told contents after) bytes
  pub refused : IsNone before.taken → (bytes ≡ []) × IsNone after.taken × (after.out.now ≡ before.out.now)

-- a write failed, so that the page is lost; nothing was written if it was lost before
pub record Loses {W : Type 0} {N : ℕ} (before after : Page W N) : Type 0 where
  pub same_writer : after.out.ghost_name ≡ before.out.ghost_name
  pub lost : IsNone after.taken
  pub refused : IsNone before.taken → after.out.now ≡ before.out.now

-- what putting bytes does
abbrev pub PutsOrLoses : {W R E : Type 0} {N : ℕ} → (W → Option (List ℕ)) → Page W N → Page W N → Result R E → List ℕ → Type 0
PutsOrLoses contents before after result bytes = MatchResult result (λ _. Puts contents before after bytes) (λ _. Loses before after)
