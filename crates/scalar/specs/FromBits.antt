-- 01, "Bytes, bits, words": `from_bits`. Assumes nothing.
use Rattle.std.specs.Prelude.{◌%◌, ◌^◌, ℕ, ◌≡◌, List}
use Rattle.rules.specs.Integer.{integer}

-- The integer modulo 2^255.
pub record Reduced (given made : List ℕ) : Type 0 where
  pub reduced : integer made ≡ integer given % 2 ^ 255
