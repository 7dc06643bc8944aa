-- What `from_slice` promises. Assumes nothing.
use Rattle.std.specs.Prelude.{ℕ, ◌≡◌, ◌≢◌, List, length, replicate, Err}
use Rattle.rules.specs.declared.Refusal.TheVariants.{WrongLength}
use Rattle.rules.specs.Verdicts.{Verdict, Done}

-- 32 bytes are taken as they are; another length is refused with 1 and zero bytes.
pub record FromSlice (given : List ℕ) (answer : Verdict) (made : List ℕ) : Type 0 where
  pub done : length given ≡ 32 → (answer ≡ Done) × (made ≡ given)
  pub refused : length given ≢ 32 → (answer ≡ Err WrongLength) × (made ≡ replicate 32 0)
