-- Bytes that are put one after another.
use Rattle.std.proofs.Common.{ℕ, List, ◌++◌, arith, Ok, Err}
use Rattle.std.specs.Prelude.{Result}
use Rattle.std.specs.declared.option.Option.{Option}
use Rattle.std.proofs.lemmas.Grind.{common_steps}
use Rattle.console.specs.declared.page.Page.{Page}
use Rattle.console.specs.Page.{Puts, PutsOrLoses}

module _ {W : Type 0} {N : ℕ} (contents : W → Option (List ℕ)) (before between after : Page W N) (xs ys : List ℕ) where
  pub puts_more : Puts contents before between xs → Puts contents between after ys → Puts contents before after (xs ++ ys)
  puts_more first then = grind (arith, common_steps)

  pub puts_then : {R E : Type 0} (result : Result R E) → Puts contents before between xs → PutsOrLoses contents between after result ys
      → PutsOrLoses contents before after result (xs ++ ys)
  puts_then (Ok r) first then = puts_more first then
  puts_then (Err e) first then = grind (arith, common_steps)
