-- 01, "Bytes, bits, words": the 256 bits. Assumes nothing.
use Rattle.std.specs.Prelude.{ℕ, ◌/◌, ◌%◌, ◌^◌, ◌<◌, ◌≡◌, Bool, false, List, eqb, length, get_or}
use Rattle.rules.specs.Integer.{integer}

-- Binary digit i of a number, as a bool.
abbrev pub binary_digit : ℕ → ℕ → Bool
binary_digit x i = eqb (x / 2 ^ i % 2) 1

-- `bits_le`, and back: 256 bits, bit i being the integer's binary digit i.
pub record BitsOf (bytes : List ℕ) (bits : List Bool) : Type 0 where
  pub long : length bits ≡ 256
  pub each : (i : ℕ) → i < 256 → get_or bits i false ≡ binary_digit (integer bytes) i
