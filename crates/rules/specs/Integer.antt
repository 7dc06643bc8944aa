-- 01, "Taken from the source": the integer of some bytes. Assumes nothing.
use Rattle.std.specs.Prelude.{ℕ, ◌<◌, ◌≡◌, List, length, get_or}
use Rattle.numbers.specs.Positional.{positional}

-- Byte i times 256^i, added up: the lowest byte comes first, as in RFC 8032.
abbrev pub integer : List ℕ → ℕ
integer bytes = positional 256 bytes

-- n bytes, each below 256: what the type of an array of bytes says of it.
pub record Bytes (n : ℕ) (bytes : List ℕ) : Type 0 where
  pub long : length bytes ≡ n
  pub small : (k : ℕ) → get_or bytes k 0 < 256
