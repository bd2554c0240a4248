-- The version of the library as one number, as satchelram.h has it: 1,000,000 x major + 1,000 x minor + patch.
use Rattle.std.specs.Prelude.{ℕ, ◌+◌, ◌*◌}

abbrev pub version_number : ℕ → ℕ → ℕ → ℕ
version_number major minor patch = 1000000 * major + 1000 * minor + patch

-- 0.1.0
abbrev pub version : ℕ
version = version_number 0 1 0
