-- The calls on whole scalars. In each, `before` and `after` are what the lent buffer holds at the call and at the return. Assumes nothing.
use Rattle.std.specs.Prelude.{ℕ, ◌≡◌, ◌&&◌, List, [], ◌∷◌, leb, replicate}
use Rattle.rules.specs.declared.Refusal.TheVariants.{WrongLength, WrongChoice}
use Rattle.rules.specs.Verdicts.{Done, unless, ◌or_else◌}
use Rattle.rules.specs.Integer.{Bytes}
use Rattle.scalar.specs.FromBits.{Reduced}
use Rattle.scalar.specs.ConditionalSelect.{Selects}
use Rattle.scalar.specs.IsOdd.{odd_integer}
use Rattle.bits.specs.BitNumber.{bit_number}
use Rattle.calls.specs.Answers.{sized, Answers}

-- `card_from_bits`: 32 bytes, whose integer is that of `bytes` modulo 2^255.
abbrev pub CardFromBits : List ℕ → List ℕ → List ℕ → ℕ → Type 0
CardFromBits bytes before after result =
    Answers (unless (sized 32 bytes && sized 32 before) WrongLength) (λ out. Bytes 32 out × Reduced bytes out) before after result

-- `card_select`: the first scalar or the second; a choice that is neither 0 nor 1 is 9.
abbrev pub CardSelect : List ℕ → List ℕ → ℕ → List ℕ → List ℕ → ℕ → Type 0
CardSelect a b choice before after result =
    Answers (unless (sized 32 a && sized 32 b && sized 32 before) WrongLength or_else unless (leb choice 1) WrongChoice)
    (Selects a b choice Done) before after result

-- `card_is_odd`: one byte, 1 if the integer is odd and 0 if it is even.
abbrev pub CardIsOdd : List ℕ → List ℕ → List ℕ → ℕ → Type 0
CardIsOdd bytes before after result =
    Answers (unless (sized 32 bytes && sized 1 before) WrongLength) (λ out. out ≡ bit_number (odd_integer bytes) ∷ []) before after result

-- `card_zeroize`: 32 zeros.
abbrev pub CardZeroize : List ℕ → List ℕ → ℕ → Type 0
CardZeroize before after result = Answers (unless (sized 32 before) WrongLength) (λ buf. buf ≡ replicate 32 0) before after result
