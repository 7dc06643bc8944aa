-- What the recoder's parts promise each other, over the width. Assumes nothing.
use Rattle.std.specs.Prelude.{ℕ, ◌-◌, ◌%◌, ◌^◌, ◌≡◌, ◌≢◌, MatchOption, ℤ}
use Rattle.std.specs.declared.option.Option.{Option}
use Rattle.digits.specs.declared.centre.Centred.{Centred}
use Rattle.numbers.specs.Centred.{centred, carried}

-- An odd x becomes a digit and a carry.
pub record TakenN (w x : ℕ) (digit : ℤ) (next : ℕ) : Type 0 where
  pub odd : x % 2 ≢ 0
  pub is : digit ≡ centred (2 ^ (w - 1)) x
  pub carries : next ≡ carried (2 ^ (w - 1)) x

-- A turn at a window and its carry, together x: even, no digit stands there and the carry stays; odd, x is taken.
unfoldable pub StepN : (w x : ℕ) → Option Centred → Type 0
StepN w x turn = MatchOption turn (x % 2 ≡ 0) (λ c. TakenN w x c.digit c.carry.bit)
