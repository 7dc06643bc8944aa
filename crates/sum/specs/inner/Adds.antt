-- What the loops of `read_sum` hold on the way. Assumes nothing.
use Rattle.std.specs.Prelude.{ℕ, ◌+◌, ◌*◌, ◌^◌, ◌≤◌, ◌≡◌, ◌≢◌, Bool, List, take, replicate, ℤ, pos, ◌+ℤ◌}
use Rattle.rules.specs.Verdicts.{Verdict, Done}
use Rattle.rules.specs.Integer.{integer}
use Rattle.rules.specs.Digits.{weighted}
use Rattle.rules.specs.Test.{range_fault}
use Rattle.sum.specs.SumRead.{end_of}

-- The first `next` digits lie in `at` bytes, whose integer is `low`, and in `held` above them, which counts from 128 at its bit `bits` so that it is never negative.
pub record Adds (ds : List ℤ) (w at low next held bits : ℕ) : Type 0 where
  pub place : 8 * at + bits ≡ w * next
  pub sum : weighted (2 ^ w) (take next ds) +ℤ pos (128 * 2 ^ (w * next)) ≡ pos (low + 256 ^ at * held)

-- What stood for the digits passed still does, with more digits in it.
abbrev pub Keeps : List ℤ → ℕ → ℕ → ℕ → ℕ → ℕ → ℕ → ℕ → Type 0
Keeps ds w next held bits next' held' bits' = (at low : ℕ) → Adds ds w at low next held bits → Adds ds w at low next' held' bits'

-- From one rest to a later one that has a full byte.
pub record Gathers (ds : List ℤ) (w next held bits next' held' bits' : ℕ) : Type 0 where
  pub keeps : Keeps ds w next held bits next' held' bits'
  pub full : 8 ≤ bits'
  pub taken : next' + bits ≤ next + bits'

-- The integer z in 32 bytes and what stands above them, counted from `half`.
pub record Totals (z : ℤ) (bytes : List ℕ) (above half : ℕ) : Type 0 where
  pub sum : z +ℤ pos (2 ^ 256 * half) ≡ pos (integer bytes + 2 ^ 256 * above)

-- The verdict on such an integer, and its bytes where it is inside the range.
pub record SumAnswered (z : ℤ) (short : Bool) (answer : Verdict) (bytes : List ℕ) : Type 0 where
  pub ranged : answer ≡ range_fault (end_of short) z
  pub sums : answer ≡ Done → z ≡ pos (integer bytes)
  pub zeros : answer ≢ Done → bytes ≡ replicate 32 0

-- A total is judged as the integer that it stands for.
abbrev pub Judged : List ℕ → ℕ → ℕ → Bool → Verdict → List ℕ → Type 0
Judged given above half short answer bytes = (z : ℤ) → Totals z given above half → SumAnswered z short answer bytes
