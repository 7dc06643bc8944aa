-- R's table: in every row the top of the last digit times its weight is the range's end, and there are from 2 to 64 digits. One computed test. Assumes nothing.
use mathlib.Core.Path.{◌≡◌, refl}
use mathlib.Core.Logic.{◌≢◌}
use mathlib.Core.Bool.{Bool, ◌&&◌}
use Prim.Native.Nat.{ℕ, zero, suc, ◌+◌, ◌-◌, ◌*◌, ◌^◌, ◌≤◌, ◌<◌}
use native.Mathlib.Omega.{arith}
use lib.Dec.{T, leb, ltb, eqb, leb→le, le→leb, ltb→lt, eqb→eq}
use Rattle.numbers.proofs.Tests.{and_left, and_right, and_both}
use Rattle.numbers.proofs.Below.{every_below, below_at}
use Rattle.rules.specs.Widths.{width_r, row}

pub record RowFits (w : ℕ) : Type 0 where
  pub ends : (row w).top * (2 ^ w) ^ ((row w).digits - 1) ≡ 2 ^ (row w).bits
  pub several : 1 < (row w).digits
  pub most : (row w).digits ≤ 64

-- a number from `least` to `most`
pub record FromTo (least most w : ℕ) : Type 0 where
  pub low : least ≤ w
  pub high : w ≤ most

pub width-between : (least most w : ℕ) → T (leb least w && leb w most) → FromTo least most w
width-between least most w t = record { low = leb→le least w (and_left (leb least w) (leb w most) t); high = leb→le w most (and_right (leb least w) (leb w most) t) }

pub width-held : (least most w : ℕ) → least ≤ w → w ≤ most → T (leb least w && leb w most)
width-held least most w l h = and_both (leb least w) (leb w most) (le→leb least w l) (le→leb w most h)

fitting : ℕ → Bool
fitting w = eqb ((row w).top * (2 ^ w) ^ ((row w).digits - 1)) (2 ^ (row w).bits) && ltb 1 (row w).digits && leb (row w).digits 64

fitting-row : (w : ℕ) → T (fitting w) → RowFits w
unfolding fitting
fitting-row w t =
    let a = eqb ((row w).top * (2 ^ w) ^ ((row w).digits - 1)) (2 ^ (row w).bits) in
    let b = ltb 1 (row w).digits in
    let c = leb (row w).digits 64 in
    record { ends = eqb→eq _ _ (and_left a b (and_left (a && b) c t)); several = ltb→lt _ _ (and_right a b (and_left (a && b) c t)); most = leb→le _ _ (and_right (a && b) c t) }

pub row_fits : (w : ℕ) → T (width_r w) → RowFits w
unfolding fitting every_below row
row_fits w t =
    let b = width-between 4 8 w t in
    let e : 4 + (w - 4) ≡ w = omega (arith, b.low) in
    fitting-row w (rw e at (below_at (λ k. fitting (4 + k)) 5 (w - 4) tt (omega (arith, b.low, b.high))))

-- ---- a law that holds at each of the five widths

pub at-widths : (P : ℕ → Type 0) → P 4 → P 5 → P 6 → P 7 → P 8 → (w : ℕ) → T (width_r w) → P w
at-widths P a b c d e w t =
    let s = width-between 4 8 w t in
    let n : 4 + (w - 4) ≡ w = omega (arith, s.low) in
    rw n at (go (w - 4) (omega (arith, s.high)))
  where
    go : (k : ℕ) → k ≤ 4 → P (4 + k)
    go zero h = a
    go (suc zero) h = b
    go (suc (suc zero)) h = c
    go (suc (suc (suc zero))) h = d
    go (suc (suc (suc (suc zero)))) h = e
    go (suc (suc (suc (suc (suc k))))) h = absurd (omega arith)

-- width 4 alone leaves the top bit free
pub all-bits : (w : ℕ) → T (width_r w) → w ≢ 4 → (row w).bits ≡ 256
unfolding row
all-bits = at-widths (λ w. w ≢ 4 → (row w).bits ≡ 256) (λ n. absurd (n refl)) (λ n. refl) (λ n. refl) (λ n. refl) (λ n. refl)
