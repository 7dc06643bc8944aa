-- Whether a digit is zero: as a test and as an equation; and runs of zeros. Assumes nothing.
use mathlib.Core.Path.{◌≡◌, refl, sym, ◌∙◌, ap, subst}
use mathlib.Core.Logic.{◌≢◌, ◌⊎◌, inl, inr}
use mathlib.Core.Bool.{true, false}
use mathlib.Core.List.{List, ◌∷◌}
use Prim.Native.Nat.{ℕ, zero, suc, ◌%◌, ◌<◌}
use native.Mathlib.Omega.{arith}
use lib.Dec.{T, eqb-suc-zero}
use lib.ListN.{replicate}
use lib.IntN.{ℤ, pos, negsuc, nat_abs}
use Rattle.rules.specs.Digits.{digit_at, is_zero}

pub zero_or : (d : ℤ) → (d ≡ pos 0) ⊎ (is_zero d ≡ false)
zero_or (pos zero) = inl refl
zero_or (pos (suc n)) = inr (eqb-suc-zero n)
zero_or (negsuc n) = inr (eqb-suc-zero n)

pub zero_of : (d : ℤ) → T (is_zero d) → d ≡ pos 0
zero_of d t = go (zero_or d)
  where
    go : (d ≡ pos 0) ⊎ (is_zero d ≡ false) → d ≡ pos 0
    go (inl e) = e
    go (inr f) = absurd (subst T f t)

pub nonzero-of : (d : ℤ) → d ≢ pos 0 → is_zero d ≡ false
nonzero-of d f = go (zero_or d)
  where
    go : (d ≡ pos 0) ⊎ (is_zero d ≡ false) → is_zero d ≡ false
    go (inl e) = absurd (f e)
    go (inr e) = e

pub nonzero-is : (d : ℤ) → is_zero d ≡ false → d ≢ pos 0
nonzero-is d f e = let z : true ≡ false = ap is_zero (sym e) ∙ f in subst T z tt

pub odd-nonzero : (d : ℤ) → nat_abs d % 2 ≡ 1 → is_zero d ≡ false
odd-nonzero d o = nonzero-of d (λ e. omega (arith, ap nat_abs e))

-- the first k digits, as far as the string reaches, are 0
pub record Zeros (k : ℕ) (ds : List ℤ) : Type 0 where
  pub zero-at : (j : ℕ) → j < k → digit_at ds j ≡ pos 0

pub no-zeros : (ds : List ℤ) → Zeros 0 ds
no-zeros ds = record { zero-at = λ j h. absurd (omega arith) }

pub zeros-tail : {k : ℕ} {d : ℤ} {ds : List ℤ} → Zeros (suc k) (d ∷ ds) → Zeros k ds
zeros-tail z = record { zero-at = λ j h. z.zero-at (suc j) (omega arith) }

pub zeros-head : {k : ℕ} {d : ℤ} {ds : List ℤ} → Zeros (suc k) (d ∷ ds) → d ≡ pos 0
zeros-head z = z.zero-at 0 (omega arith)

-- a string of zeros
pub replicate-zero : (n k : ℕ) → digit_at (replicate n (pos 0)) k ≡ pos 0
replicate-zero zero k = refl
replicate-zero (suc n) zero = refl
replicate-zero (suc n) (suc k) = replicate-zero n k
