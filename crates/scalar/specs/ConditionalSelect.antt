-- 01, "Bytes, bits, words": `conditional_select`. Assumes nothing.
use Rattle.std.specs.Prelude.{ℕ, ◌<◌, ◌≡◌, List, replicate, Err}
use Rattle.rules.specs.declared.Refusal.TheVariants.{WrongChoice}
use Rattle.rules.specs.Verdicts.{Verdict, Done}

-- Choice 0 gives the first scalar, 1 the second, and any other is refused with 9 and zero bytes.
pub record Selects (a b : List ℕ) (choice : ℕ) (answer : Verdict) (made : List ℕ) : Type 0 where
  pub first : choice ≡ 0 → (answer ≡ Done) × (made ≡ a)
  pub second : choice ≡ 1 → (answer ≡ Done) × (made ≡ b)
  pub other : 1 < choice → (answer ≡ Err WrongChoice) × (made ≡ replicate 32 0)
