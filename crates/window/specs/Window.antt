-- A window of bits: what the recoders read. Assumes nothing.
use Rattle.std.specs.Prelude.{ℕ, ◌/◌, ◌%◌, ◌^◌, ◌<◌, ◌≤◌, ◌≡◌, List}
use Rattle.rules.specs.Integer.{integer}

-- The w bits from place `at` up, as a number; past the last byte stand zeros. Windows of more than 8 bits are not read: they give 0.
pub record Windowed (bytes : List ℕ) (at w window : ℕ) : Type 0 where
  pub narrow : w ≤ 8 → window ≡ integer bytes / 2 ^ at % 2 ^ w
  pub wide : 8 < w → window ≡ 0
  pub small : window < 256
