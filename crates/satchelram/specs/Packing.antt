-- The packing rule (docs/PACKING.md): one number carries a number, a second and a third.
use Rattle.std.specs.Prelude.{ℕ, ◌+◌, ◌*◌, ◌/◌, ◌%◌, ◌^◌}

-- how many values the number has, how many the second, and both together
abbrev pub number_room : ℕ
number_room = 2 ^ 8

abbrev pub second_room : ℕ
second_room = 2 ^ 24

abbrev pub both_room : ℕ
both_room = 2 ^ 32

abbrev pub packed : ℕ → ℕ → ℕ → ℕ
packed number second third = number + number_room * second + both_room * third

-- taken out again
abbrev pub number_in : ℕ → ℕ
number_in answer = answer % number_room

abbrev pub second_in : ℕ → ℕ
second_in answer = answer / number_room % second_room

abbrev pub third_in : ℕ → ℕ
third_in answer = answer / both_room
