-- R's digit rule as a test on a digit's distance from -128, an unsigned number. Assumes nothing.
use mathlib.Core.Path.{◌≡◌, refl, ap, ap₂}
use mathlib.Core.Logic.{◌⊎◌, inl, inr}
use mathlib.Core.Bool.{Bool, true, false, ◌&&◌}
use Prim.Native.Nat.{ℕ, zero, suc, ◌+◌, ◌-◌, ◌^◌, ◌≤◌, ◌<◌}
use native.Mathlib.Omega.{arith}
use borrow.Author.Tests.{lt-ltb, le-ltb, eq-eqb, ne_eqb}
use lib.Dec.{T, leb, eqb, leb→le, le→leb, eqb-suc-zero}
use lib.Pow.{pow_pos}
use lib.IntN.{ℤ, pos, negsuc, neg_ℤ, ◌+ℤ◌}
use lib.Signed.{le_z}
use Rattle.numbers.proofs.Balance.{up, dn, add-balance, one-sided}
use Rattle.rules.specs.Digits.{is_zero}
use Rattle.rules.specs.Forms.{digit_r, within}

-- two tests that pass together are one
same_test : (a b : Bool) → (T a → T b) → (T b → T a) → a ≡ b
same_test true true f g = refl
same_test true false f g = absurd (f tt)
same_test false true f g = absurd (g tt)
same_test false false f g = refl

-- ---- the bounds of a signed number, by its parts above and below 0

low_part : (H : ℕ) (d : ℤ) → T (le_z (neg_ℤ (pos H)) d) → dn d ≤ H
low_part zero (pos a) t = omega arith
low_part zero (negsuc a) t = absurd t
low_part (suc h) (pos a) t = omega arith
low_part (suc h) (negsuc a) t = omega (arith, leb→le a h t)

part_low : (H : ℕ) (d : ℤ) → dn d ≤ H → T (le_z (neg_ℤ (pos H)) d)
part_low zero (pos a) l = le→leb 0 a (omega arith)
part_low zero (negsuc a) l = absurd (omega arith)
part_low (suc h) (pos a) l = tt
part_low (suc h) (negsuc a) l = le→leb a h (omega arith)

high_part : (H : ℕ) (d : ℤ) → T (le_z d (pos H)) → up d ≤ H
high_part H (pos a) t = leb→le a H t
high_part H (negsuc a) t = omega arith

part-high : (H : ℕ) (d : ℤ) → up d ≤ H → T (le_z d (pos H))
part-high H (pos a) l = le→leb a H l
part-high H (negsuc a) l = tt

-- a digit is 0 where its distance from -128 is 128
zero-at : (d : ℤ) (e : ℕ) → e + dn d ≡ up d + 128 → eqb e 128 ≡ is_zero d
zero-at (pos zero) e r = eq-eqb e 128 (omega (arith, r))
zero-at (pos (suc n)) e r = rw (ne_eqb e 128 (λ z. omega (arith, r)), eqb-suc-zero)
zero-at (negsuc n) e r = rw (ne_eqb e 128 (λ z. omega (arith, r)), eqb-suc-zero)

module _ (d : ℤ) (e : ℕ) (q : pos e ≡ d +ℤ pos 128) where
  raised : e + dn d ≡ up d + 128
  raised = omega (arith, add-balance d (pos 128), ap up q, ap dn q)

  -- from -low to high
  offset-within : (low high : ℕ) → low ≤ 128 → leb (128 - low) e && leb e (128 + high) ≡ within (neg_ℤ (pos low)) (pos high) d
  offset-within low high l = ap₂ ◌&&◌ lows highs
    where
      lows : leb (128 - low) e ≡ le_z (neg_ℤ (pos low)) d
      lows =
          same_test _ _
          (λ t. part_low low d (go (one-sided d) (leb→le (128 - low) e t)))
          (λ t. le→leb (128 - low) e (omega (arith, raised, low_part low d t)))
        where
          go : (up d ≡ 0) ⊎ (dn d ≡ 0) → 128 - low ≤ e → dn d ≤ low
          go (inl z) h = omega (arith, raised)
          go (inr z) h = omega arith

      highs : leb e (128 + high) ≡ le_z d (pos high)
      highs =
          same_test _ _
          (λ t. part-high high d (go (one-sided d) (leb→le e (128 + high) t)))
          (λ t. le→leb e (128 + high) (omega (arith, raised, high_part high d t)))
        where
          go : (up d ≡ 0) ⊎ (dn d ≡ 0) → e ≤ 128 + high → up d ≤ high
          go (inl z) h = omega arith
          go (inr z) h = omega (arith, raised)

  module _ (w n top i : ℕ) where
    pub before_last : (half : ℕ) → half ≡ 2 ^ (w - 1) → half ≤ 128 → i + 1 < n → leb (128 - half) e && leb e (127 + half) ≡ digit_r w n top i d
    unfolding digit_r
    before_last half h l k =
        let s : 127 + half ≡ 128 + (half - 1) = omega (arith, pow_pos (w - 1)) in
        rw (lt-ltb (i + 1) n k, ← h, s) (offset-within half (half - 1) l)

    pub at_last : i + 1 ≡ n → leb 128 e && leb e (128 + top) ≡ digit_r w n top i d
    unfolding digit_r
    at_last k = rw (le-ltb (i + 1) n (omega arith), eq-eqb (i + 1) n k) (offset-within 0 top (omega arith))

    pub past-last : n < i + 1 → eqb e 128 ≡ digit_r w n top i d
    unfolding digit_r
    past-last k = rw (le-ltb (i + 1) n (omega arith), ne_eqb (i + 1) n (λ z. omega arith)) (zero-at d e raised)
