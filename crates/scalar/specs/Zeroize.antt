-- 01, "Bytes, bits, words": `zeroize`. Assumes nothing.
use Rattle.std.specs.Prelude.{ℕ, ◌≡◌, ◌≢◌, List, length, replicate, Err}
use Rattle.rules.specs.declared.Refusal.TheVariants.{WrongLength}
use Rattle.rules.specs.Verdicts.{Verdict, Done}

-- 32 lent bytes become zeros; another length is refused with 1 and every byte stays.
pub record Zeroized (before after : List ℕ) (answer : Verdict) : Type 0 where
  pub done : length before ≡ 32 → (answer ≡ Done) × (after ≡ replicate 32 0)
  pub refused : length before ≢ 32 → (answer ≡ Err WrongLength) × (after ≡ before)
