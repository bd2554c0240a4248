-- The packing law: unpacking gives back number, second and third, so nothing is lost.
use mathlib.Core.Path.{◌≡◌}
use Prim.Native.Nat.{ℕ, ◌<◌}
use native.Mathlib.Omega.{arith}
use Rattle.satchelram.specs.Packing.{number_room, second_room, packed, number_in, second_in, third_in}

pub record Unpacks (number second third : ℕ) : Type 0 where
  pub first : number_in (packed number second third) ≡ number
  pub then : second_in (packed number second third) ≡ second
  pub last : third_in (packed number second third) ≡ third

pub unpacks : (number second third : ℕ) → number < number_room → second < second_room → Unpacks number second third
unpacks number second third a b = record { first = omega arith; then = omega arith; last = omega arith }
