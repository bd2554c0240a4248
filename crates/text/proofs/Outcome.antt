-- The outcome of the sheet call is settled: any two ends are equal, and every text and buffer has one.
use mathlib.Core.Path.{◌≡◌, ap}
use mathlib.Core.List.{List}
use Prim.Native.Nat.{ℕ, ◌<◌}
use native.Mathlib.Omega.{arith}
use native.Mathlib.Decide.{dec_lt}
use lib.ListN.{length}
use Rattle.rules.specs.Limits.{open_limit, wiped, filled}
use Rattle.rules.specs.Numbers.{done, sheet_short}
use Rattle.rules.proofs.Grounds.{settled, ends}
use Rattle.language.specs.Tree.{Tree}
use Rattle.sheet.specs.Make.{sheet_of}
use Rattle.lexer.specs.Tokens.{tokens_from}
use Rattle.text.specs.Refusals.{text_refusal}
use Rattle.text.specs.Outcome.{SheetEnd, TreeOfText, SheetWent, made, short, sheet_kept, SheetCall}
use Rattle.text.proofs.Parsing.{unambiguous}
use Rattle.text.proofs.Made.{has-tree}

module _ (text buffer : List ℕ) where
  same-sheet : {t u : Tree ℕ} → TreeOfText text t → TreeOfText text u → sheet_of t ≡ sheet_of u
  same-sheet {t} {u} p q = ap sheet_of (unambiguous open_limit (tokens_from text 0) t u p q)

  went_same : (s s' : SheetEnd) → SheetWent text buffer s → SheetWent text buffer s' → s ≡ s'
  went_same s s' (made p h) (made q k) = ap (λ (x : List ℕ). record { number = done; second = length x; sheet = filled buffer x }) (same-sheet p q)
  went_same s s' (made p h) (short q k) = absurd (omega (arith, ap length (same-sheet p q)))
  went_same s s' (short p h) (made q k) = absurd (omega (arith, ap length (same-sheet p q)))
  went_same s s' (short p h) (short q k) = ap (λ (x : List ℕ). record { number = sheet_short; second = length x; sheet = wiped buffer }) (same-sheet p q)

  pub sheet_settled : (s s' : SheetEnd) → SheetCall text buffer s → SheetCall text buffer s' → s ≡ s'
  sheet_settled = settled went_same

  pub sheet-ends : (s : SheetEnd) × SheetCall text buffer s
  sheet-ends = ends (text_refusal text) (sheet_kept buffer) (SheetWent text buffer) (λ e. let (t, w) = has-tree text e in go t w.tree (dec_lt (length buffer) (length (sheet_of t))))
    where
      go : (t : Tree ℕ) → TreeOfText text t → Dec (length buffer < length (sheet_of t)) → (s : SheetEnd) × SheetWent text buffer s
      go t p (yes h) = (_, short p h)
      go t p (no n) = (_, made p (omega arith))
