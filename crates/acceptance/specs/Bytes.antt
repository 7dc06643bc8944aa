-- Document 01, "Bytes, bits, words", in its own words. Assumes nothing.
use Rattle.std.specs.Prelude.{ℕ, ◌+◌, ◌*◌, ◌/◌, ◌%◌, ◌^◌, ◌<◌, ◌≡◌, ◌↔◌, Bool, true, false, List, length, get_or}
use Rattle.numbers.specs.Total.{totalℕ}
use Rattle.acceptance.specs.Strings.{integer_of}

-- 256 bits, and bit i is the integer's binary digit i.
pub record BitsAre (bytes : List ℕ) (bits : List Bool) : Type 0 where
  pub long : length bits ≡ 256
  pub each : (i : ℕ) → i < 256 → (get_or bits i false ≡ true) ↔ (integer_of bytes / 2 ^ i % 2 ≡ 1)

-- Four words, and word k is byte 8k + j times 256^j, added up over its eight bytes.
pub record WordsAre (bytes words : List ℕ) : Type 0 where
  pub long : length words ≡ 4
  pub each : (k : ℕ) → k < 4 → get_or words k 0 ≡ totalℕ (λ j. get_or bytes (8 * k + j) 0 * 256 ^ j) 8
