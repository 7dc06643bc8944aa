-- The calls on bits, each bit a byte. Assumes nothing.
use Rattle.std.specs.Prelude.{ℕ, ◌<◌, ◌≡◌, Bool, not, ◌&&◌, List, map, eqb, length, get_or}
use Rattle.rules.specs.declared.Refusal.TheVariants.{WrongLength}
use Rattle.rules.specs.Verdicts.{unless}
use Rattle.rules.specs.Integer.{integer, Bytes}
use Rattle.bits.specs.BitNumber.{bit_number}
use Rattle.bits.specs.Bits.{binary_digit, BitsOf}
use Rattle.calls.specs.Answers.{sized, Answers}

-- 256 bytes: byte i is the integer's binary digit i, as 0 or 1.
pub record BitBytes (bytes out : List ℕ) : Type 0 where
  pub long : length out ≡ 256
  pub each : (i : ℕ) → i < 256 → get_or out i 0 ≡ bit_number (binary_digit (integer bytes) i)

-- `card_bits`: the binary digits as bytes.
abbrev pub CardBits : List ℕ → List ℕ → List ℕ → ℕ → Type 0
CardBits bytes before after result = Answers (unless (sized 32 bytes && sized 256 before) WrongLength) (BitBytes bytes) before after result

-- A byte as a bit: not 0 is true.
abbrev pub is_set : ℕ → Bool
is_set b = not (eqb b 0)

-- `card_from_bit_bytes`: the 32 bytes that have these bits.
abbrev pub CardFromBitBytes : List ℕ → List ℕ → List ℕ → ℕ → Type 0
CardFromBitBytes bits before after result =
    Answers (unless (sized 256 bits && sized 32 before) WrongLength) (λ out. Bytes 32 out × BitsOf out (map is_set bits)) before after result
