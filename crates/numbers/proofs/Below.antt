-- A test computed at every number below a bound holds at each of them. Assumes nothing.
use mathlib.Core.Path.{◌≡◌}
use mathlib.Core.Logic.{◌⊎◌, inl, inr}
use mathlib.Core.Bool.{Bool, true, ◌&&◌}
use Prim.Native.Nat.{ℕ, zero, suc, ◌<◌}
use native.Mathlib.Nat.{eq-or-lt_of_le}
use native.Mathlib.Omega.{arith}
use lib.Dec.{T}
use Rattle.numbers.proofs.Tests.{and_left, and_right}

unfoldable pub every_below : (ℕ → Bool) → ℕ → Bool
every_below f zero = true
every_below f (suc n) = f n && every_below f n

pub below_at : (f : ℕ → Bool) (n k : ℕ) → T (every_below f n) → k < n → T (f k)
unfolding every_below
below_at f zero k t h = absurd (omega arith)
below_at f (suc n) k t h = go (eq-or-lt_of_le {n = suc k} {m = suc n} h) (λ l. below_at f n k (and_right (f n) (every_below f n) t) l)
  where
    go : (suc k ≡ suc n) ⊎ (suc k < suc n) → (k < n → T (f k)) → T (f k)
    go (inl e) r = let e' : k ≡ n = omega arith in rw e' (and_left (f n) (every_below f n) t)
    go (inr l) r = r (omega arith)
