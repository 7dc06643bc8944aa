-- Every integer of R's range has a string: a recoder as a function on numbers, over the width, the number of digits and the last digit's top, and then by R's table. Assumes nothing.
use mathlib.Core.Path.{◌≡◌, sym}
use mathlib.Core.List.{List, ◌∷◌}
use Prim.Native.Nat.{ℕ, zero, suc, ◌+◌, ◌-◌, ◌*◌, ◌/◌, ◌%◌, ◌^◌, ◌≤◌, ◌<◌, zero-le}
use native.Mathlib.Nat.{div-add-mod, mod-lt, pow-zero, pow-suc, suc-add, mul-add}
use native.Mathlib.Omega.{arith}
use lib.Dec.{T, leb, le→leb, leb-suc-suc, eqb-suc-suc}
use lib.ListN.{length, replicate, length-replicate}
use lib.Pow.{pow_pos}
use lib.IntN.{ℤ, pos}
use Rattle.numbers.proofs.Tests.{and_both}
use Rattle.numbers.proofs.Rounding.{twice, round-down}
use Rattle.numbers.specs.Centred.{centred, carried}
use Rattle.numbers.proofs.Centred.{centred-is}
use Rattle.numbers.proofs.Balance.{up, dn, same}
use Rattle.rules.specs.Digits.{digit_at, weighted}
use Rattle.rules.specs.Widths.{width_r, row}
use Rattle.rules.specs.Forms.{digit_r, form_r}
use Rattle.rules.specs.Promises.{Recoded}
use Rattle.rules.proofs.ZeroDigit.{replicate-zero}
use Rattle.rules.proofs.Sum.{cons-balance, zeros-sum}
use Rattle.rules.proofs.Radix.{Between, before-digit_r, zero-digit_r, unspaced}
use Rattle.rules.proofs.Table.{row_fits, width-between}

-- the lowest digit of x, and what is left of x above it
unfoldable pub radix_digit : ℕ → ℕ → ℤ
radix_digit w x = centred (2 ^ (w - 1)) (x % 2 ^ w)

unfoldable pub radix_next : ℕ → ℕ → ℕ
radix_next w x = x / 2 ^ w + carried (2 ^ (w - 1)) (x % 2 ^ w)

-- m digits, then the last, then zeros
unfoldable pub radix_of : ℕ → ℕ → ℕ → ℕ → List ℤ
radix_of w pad zero x = pos x ∷ replicate pad (pos 0)
radix_of w pad (suc m) x = radix_digit w x ∷ radix_of w pad m (radix_next w x)

pub record RadixStep (w x : ℕ) (d : ℤ) (y : ℕ) : Type 0 where
  pub digit : Between (2 ^ (w - 1)) d
  pub total : x + dn d ≡ up d + 2 ^ w * y

module _ (w : ℕ) (w⁺ : 0 < w) where
  pub radix-step : (x : ℕ) → RadixStep w x (radix_digit w x) (radix_next w x)
  unfolding radix_digit radix_next
  radix-step x =
      let h = 2 ^ (w - 1) in
      let r = x % 2 ^ w in
      let q = x / 2 ^ w in
      let e : 2 * h ≡ 2 ^ w = sym (twice w w⁺) in
      let c = centred-is h r (pow_pos (w - 1)) (omega (arith, e, mod-lt x {m = 2 ^ w} (pow_pos w))) in
      let t : r + dn (centred h r) ≡ up (centred h r) + 2 ^ w * carried h r = rw e at c.total in
      record { digit = record { below = c.below; above = c.above }; total = omega (arith, div-add-mod x (2 ^ w), mul-add (2 ^ w) q (carried h r)) }

  -- what is left above a digit fits where x fits
  pub fits-above : (x c : ℕ) {d : ℤ} {y : ℕ} → RadixStep w x d y → x ≤ 2 ^ w * c → y ≤ c
  fits-above x c {d} {y} s h =
      let a = s.digit.above in
      let b = s.digit.below in
      round-down (2 ^ w) c y (2 ^ w) (omega (arith, s.total, twice w w⁺, pow_pos (w - 1))) (omega arith)

  pub radix_of-length : (pad m x : ℕ) → length (radix_of w pad m x) ≡ suc (m + pad)
  unfolding radix_of
  radix_of-length pad zero x = omega (arith, length-replicate pad (pos 0))
  radix_of-length pad (suc m) x = omega (arith, radix_of-length pad m (radix_next w x))

  pub radix_of-sum : (pad m x : ℕ) → weighted (2 ^ w) (radix_of w pad m x) ≡ pos x
  unfolding radix_of
  radix_of-sum pad zero x = same (weighted (2 ^ w) (pos x ∷ replicate pad (pos 0))) (pos x) (omega (arith, rw (zeros-sum (2 ^ w) pad) at (cons-balance (2 ^ w) (pos x) (replicate pad (pos 0)))))
  radix_of-sum pad (suc m) x =
      let e = radix_of-sum pad m (radix_next w x) in
      same (weighted (2 ^ w) (radix_digit w x ∷ radix_of w pad m (radix_next w x))) (pos x)
      (omega (arith, (radix-step x).total, rw e at (cons-balance (2 ^ w) (radix_digit w x) (radix_of w pad m (radix_next w x)))))

  module _ (top : ℕ) where
    -- one index and one digit fewer
    one_fewer : (n i : ℕ) (d : ℤ) → digit_r w (suc n) top (suc i) d ≡ digit_r w n top i d
    unfolding digit_r
    one_fewer n i d = rw (suc-add, leb-suc-suc, eqb-suc-suc)

    pub radix_of-digits : (pad m x k : ℕ) → x ≤ top * (2 ^ w) ^ m → T (digit_r w (suc m) top k (digit_at (radix_of w pad m x) k))
    unfolding radix_of digit_r
    radix_of-digits pad zero x zero h = and_both (leb 0 x) (leb x top) (le→leb 0 x zero-le) (le→leb x top (omega (arith, rw pow-zero at h)))
    radix_of-digits pad zero x (suc k) h = rw (replicate-zero pad k) (zero-digit_r w 1 top (suc k))
    radix_of-digits pad (suc m) x zero h = before-digit_r w (suc (suc m)) top 0 (radix_digit w x) (omega arith) (radix-step x).digit
    radix_of-digits pad (suc m) x (suc k) h =
        rw (one_fewer (suc m) k)
        (radix_of-digits pad m (radix_next w x) k (fits-above x (top * (2 ^ w) ^ m) (radix-step x) (omega (arith, rw (pow-suc (2 ^ w) m) at h))))

-- the string of x in the row's digits and zeros up to so many entries, x being at most the range's end
pub recoded-r : (entries w x : ℕ) → T (width_r w) → 64 ≤ entries → x ≤ 2 ^ (row w).bits → Recoded (form_r entries w) x (radix_of w (entries - (row w).digits) ((row w).digits - 1) x)
recoded-r entries w x t m h =
    let n = (row w).digits in
    let f = row_fits w t in
    let w⁺ : 0 < w = omega (arith, (width-between 4 8 w t).low) in
    let e : suc (n - 1) ≡ n = omega (arith, f.several) in
    let l : x ≤ (row w).top * (2 ^ w) ^ (n - 1) = omega (arith, f.ends) in
    record {
      long = omega (arith, radix_of-length w w⁺ (entries - n) (n - 1) x, f.several, f.most);
      keeps = unspaced entries w (λ i. rw e at (radix_of-digits w w⁺ (row w).top (entries - n) (n - 1) x i l));
      sums = radix_of-sum w w⁺ (entries - n) (n - 1) x;
    }
