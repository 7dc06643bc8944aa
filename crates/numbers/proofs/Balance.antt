-- An integer as a balance of two naturals: z = up z - dn z, one of the two being 0. A fact on ℤ becomes a fact on ℕ, which omega reads.
-- Assumes nothing.
use mathlib.Core.Path.{◌≡◌, refl, sym, ◌∙◌, ap}
use mathlib.Core.Logic.{◌⊎◌, inl, inr}
use mathlib.Core.Bool.{Bool, true, false, not, cond}
use Prim.Native.Nat.{ℕ, zero, suc, ◌+◌, ◌-◌, ◌*◌, ◌≤◌, ◌<◌}
use native.Mathlib.Nat.{mul-zero}
use native.Mathlib.Omega.{arith}
use lib.Dec.{T, ltb, ltb→lt, nltb→le}
use lib.IntN.{ℤ, pos, negsuc, neg_ℤ, nat_abs, sub_ℕ, ◌+ℤ◌, ◌*ℤ◌}

abbrev pub up : ℤ → ℕ
up (pos n) = n
up (negsuc n) = 0

abbrev pub dn : ℤ → ℕ
dn (pos n) = 0
dn (negsuc n) = suc n

pub one-sided : (x : ℤ) → (up x ≡ 0) ⊎ (dn x ≡ 0)
one-sided (pos n) = inr refl
one-sided (negsuc n) = inl refl

pub abs-balance : (x : ℤ) → nat_abs x ≡ up x + dn x
abs-balance (pos n) = omega arith
abs-balance (negsuc n) = omega arith

-- two integers of one balance are one
pub same : (x y : ℤ) → up x + dn y ≡ up y + dn x → x ≡ y
same (pos a) (pos b) e = ap pos (omega arith)
same (pos a) (negsuc b) e = absurd (omega arith)
same (negsuc a) (pos b) e = absurd (omega arith)
same (negsuc a) (negsuc b) e = ap negsuc (omega arith)

-- a - b, for two naturals
pub sub-balance : (a b : ℕ) → up (sub_ℕ a b) + b ≡ a + dn (sub_ℕ a b)
sub-balance a b = go (ltb a b) (λ t. ltb→lt a b t) (λ t. nltb→le a b t)
  where
    go : (c : Bool) → (T c → a < b) → (T (not c) → b ≤ a) → up (cond c (negsuc (b - suc a)) (pos (a - b))) + b ≡ a + dn (cond c (negsuc (b - suc a)) (pos (a - b)))
    go true f g = let h : a < b = f tt in omega arith
    go false f g = let h : b ≤ a = g tt in omega arith

pub add-balance : (x y : ℤ) → up (x +ℤ y) + (dn x + dn y) ≡ up x + up y + dn (x +ℤ y)
add-balance (pos a) (pos b) = omega arith
add-balance (pos a) (negsuc b) = omega (arith, sub-balance a (suc b))
add-balance (negsuc a) (pos b) = omega (arith, sub-balance b (suc a))
add-balance (negsuc a) (negsuc b) = omega arith

pub neg-up : (n : ℕ) → up (neg_ℤ (pos n)) ≡ 0
neg-up zero = refl
neg-up (suc n) = refl

pub neg-dn : (n : ℕ) → dn (neg_ℤ (pos n)) ≡ n
neg-dn zero = refl
neg-dn (suc n) = refl

pub mul-up : (b : ℕ) (x : ℤ) → up (pos b *ℤ x) ≡ b * up x
mul-up b (pos n) = refl
mul-up b (negsuc n) = neg-up (b * suc n) ∙ sym (mul-zero b)

pub mul-dn : (b : ℕ) (x : ℤ) → dn (pos b *ℤ x) ≡ b * dn x
mul-dn b (pos n) = sym (mul-zero b)
mul-dn b (negsuc n) = neg-dn (b * suc n)

-- a - b where b is at least a: nothing above 0
pub sub-up : (a b : ℕ) → a ≤ b → up (sub_ℕ a b) ≡ 0
sub-up a b l = go (one-sided (sub_ℕ a b))
  where
    go : (up (sub_ℕ a b) ≡ 0) ⊎ (dn (sub_ℕ a b) ≡ 0) → up (sub_ℕ a b) ≡ 0
    go (inl e) = e
    go (inr e) = omega (arith, sub-balance a b)
