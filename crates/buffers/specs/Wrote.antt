-- What it is to have stored bytes one after the other. Inner contracts cite this; the public ones do not.
use Rattle.std.specs.Prelude.{◌≡◌, Bool, true, false, List, [], ◌∷◌, ℕ, ◌+◌, length}
use Rattle.std.proofs.lemmas.List.Edits.{sets}
use Rattle.buffers.specs.declared.tally.Tally.{Tally}

-- from count n the bytes vs were stored, as far as the buffer goes, and the count is m
pub record Wrote (n : ℕ) (xs : List ℕ) (m : ℕ) (ys vs : List ℕ) : Type 0 where
  pub count : m ≡ n + length vs
  pub bytes : ys ≡ sets xs n vs

-- the byte, if it is to be stored
abbrev pub op_if : Bool → ℕ → List ℕ
op_if true b = b ∷ []
op_if false b = []

-- a tally, and what it is once the bytes vs were added
abbrev pub Added : {N : ℕ} → Tally N → Tally N → List ℕ → Type 0
Added before after vs = Wrote before.count before.bytes after.count after.bytes vs
