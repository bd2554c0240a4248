-- How a reading stands in a mapping buffer: "A mapping buffer holds one byte a position."
use Rattle.std.specs.Prelude.{◌≡◌, List, ℕ, ◌*◌, ◌<◌, length, take, drop, set}
use Rattle.rules.specs.Limits.{byte_values}

-- how many bytes an entry takes, and how many values it has
abbrev pub entry_size : ℕ
entry_size = 1

abbrev pub entry_values : ℕ
entry_values = byte_values

-- the bytes that a reading is stored as
unfoldable pub stored : List ℕ → List ℕ
stored reading = reading

-- the sequence that the first n entries of a mapping are, and the bytes beyond them
unfoldable pub entries : ℕ → List ℕ → List ℕ
entries n mapping = take (entry_size * n) mapping

unfoldable pub beyond : ℕ → List ℕ → List ℕ
beyond n mapping = drop (entry_size * n) mapping

-- the sequence that is given for a name
abbrev pub given : List ℕ → List ℕ → List ℕ
given name mapping = entries (length name) mapping

-- entry i of a mapping became q, and nothing else changed
pub record Put (i q : ℕ) (mapping after : List ℕ) : Type 0 where
  pub there : (n : ℕ) → i < n → entries n after ≡ set (entries n mapping) i q
  pub rest : (n : ℕ) → i < n → beyond n after ≡ beyond n mapping
