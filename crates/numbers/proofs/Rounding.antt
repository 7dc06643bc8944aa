-- Numbers that differ by less than a modulus, and halves of powers of two. Assumes nothing.
use mathlib.Core.Path.{◌≡◌, ap}
use Prim.Native.Nat.{ℕ, zero, suc, ◌+◌, ◌-◌, ◌*◌, ◌^◌, ◌≤◌, ◌<◌}
use native.Mathlib.Nat.{mul-le-mul_left}
use native.Mathlib.Decide.{dec_lt}
use native.Mathlib.Omega.{arith}

-- a power of two is twice the one below it
pub twice : (w : ℕ) → 0 < w → 2 ^ w ≡ 2 * 2 ^ (w - 1)
twice zero h = absurd (omega arith)
twice (suc v) h = let e : suc v - 1 ≡ v = omega arith in rw e (omega arith)

-- two numbers that are equal to the modulus M and less than M apart
pub record Cancelled (A B P Q : ℕ) : Type 0 where
  pub low : A ≡ B
  pub high : P ≡ Q

pub cancel : (M A B P Q : ℕ) → A + M * P ≡ B + M * Q → A < B + M → B < A + M → Cancelled A B P Q
cancel M A B P Q e f g = go (dec_lt P Q) (dec_lt Q P)
  where
    go : Dec (P < Q) → Dec (Q < P) → Cancelled A B P Q
    go (yes h) k = absurd (omega (arith, mul-le-mul_left M h))
    go (no h) (yes k) = absurd (omega (arith, mul-le-mul_left M k))
    go (no h) (no k) = let p : P ≡ Q = omega arith in record { low = omega (arith, ap (λ (x : ℕ). M * x) p); high = p }

-- y multiples of M that pass c multiples by less than one are at most c
pub round-down : (M c y H : ℕ) → M * y < M * c + H → H ≤ M → y ≤ c
round-down M c y H h l = go (dec_lt c y)
  where
    go : Dec (c < y) → y ≤ c
    go (yes k) = absurd (omega (arith, mul-le-mul_left M k))
    go (no k) = omega arith
