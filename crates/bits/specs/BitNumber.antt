-- A bit as a number. Assumes nothing.
use Rattle.std.specs.Prelude.{ℕ, Bool, true, false}

-- A bit as a number: 0 or 1.
abbrev pub bit_number : Bool → ℕ
bit_number false = 0
bit_number true = 1
