-- The grammar of expressions over tokens (document 01, "Expressions as text"; precedence and grouping by Myers 1992, section 1).
use Rattle.std.specs.Prelude.{List, [], ◌∷◌, ◌++◌, ℕ, suc}
use Rattle.language.specs.Tree.{Tree, empty, cat, alt, star}
use Rattle.lexer.specs.Tokens.{a_literal, a_bar, a_star, an_open, a_close, Placed, placed}
use Rattle.repeats.specs.Copies.{copies}

pub data Level : Type 0 where
  unit sequence alternation : Level

-- "An alternation holds sequences, a sequence holds units, and a unit in parentheses holds an alternation."
-- d: how many parentheses may be open at once. Places play no part
pub data Parses : ℕ → Level → List Placed → Tree ℕ → Type 0 where
  literal : {d i b x y : ℕ} → Parses d unit (placed i (a_literal b x y) ∷ []) (copies b x y)
  void : {d i j : ℕ} → Parses (suc d) unit (placed i an_open ∷ placed j a_close ∷ []) empty
  group : {d i : ℕ} (j : ℕ) {ps : List Placed} {t : Tree ℕ}
      → Parses d alternation ps t → Parses (suc d) unit (placed i an_open ∷ ps ++ placed j a_close ∷ []) t
  starred : {d : ℕ} (i : ℕ) {ps : List Placed} {t : Tree ℕ} → Parses d unit ps t → Parses d unit (ps ++ placed i a_star ∷ []) (star t)
  one : {d : ℕ} {ps : List Placed} {t : Tree ℕ} → Parses d unit ps t → Parses d sequence ps t
  then : {d : ℕ} {ps qs : List Placed} {r t : Tree ℕ}
      → Parses d sequence ps r → Parses d unit qs t → Parses d sequence (ps ++ qs) (cat r t)
  only : {d : ℕ} {ps : List Placed} {t : Tree ℕ} → Parses d sequence ps t → Parses d alternation ps t
  or : {d : ℕ} (i : ℕ) {ps qs : List Placed} {r t : Tree ℕ}
      → Parses d alternation ps r → Parses d sequence qs t → Parses d alternation (ps ++ placed i a_bar ∷ qs) (alt r t)
