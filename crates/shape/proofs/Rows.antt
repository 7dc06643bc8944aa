-- R's table from its rows: each law holds at the five widths, by computing it there. Assumes nothing.
use mathlib.Core.Path.{◌≡◌, refl}
use mathlib.Core.Bool.{cond}
use Prim.Native.Nat.{ℕ, ◌+◌, ◌-◌, ◌/◌, ◌^◌, ◌≤◌, ◌<◌}
use native.Mathlib.Omega.{arith}
use lib.Dec.{T, leb, eqb, le→leb, lit<, lit≤}
use Rattle.numbers.proofs.Tests.{and_both}
use Rattle.rules.specs.Widths.{width_r, row}
use Rattle.rules.proofs.Table.{at-widths}

pub width-held : (w : ℕ) → 4 ≤ w → w ≤ 8 → T (width_r w)
width-held w a b = and_both (leb 4 w) (leb w 8) (le→leb 4 w a) (le→leb w 8 b)

-- 256 bits in groups of w, rounded up, and one digit more at width 8
pub implies-size-hint : (w : ℕ) → T (width_r w) → (row w).digits ≡ (256 + (w - 1)) / w + cond (eqb w 8) 1 0
unfolding row
implies-size-hint = at-widths (λ w. (row w).digits ≡ (256 + (w - 1)) / w + cond (eqb w 8) 1 0) refl refl refl refl refl

-- the last digit fits a signed byte
pub top_small : (w : ℕ) → T (width_r w) → (row w).top ≤ 16
unfolding row
top_small = at-widths (λ w. (row w).top ≤ 16) (lit≤ tt) (lit≤ tt) (lit≤ tt) (lit≤ tt) (lit≤ tt)

-- .. and is at most half the span
pub top-half : (w : ℕ) → T (width_r w) → (row w).top ≤ 2 ^ (w - 1)
unfolding row
top-half = at-widths (λ w. (row w).top ≤ 2 ^ (w - 1)) (lit≤ tt) (lit≤ tt) (lit≤ tt) (lit≤ tt) (lit≤ tt)

pub top-span : (w : ℕ) → T (width_r w) → (row w).top < 2 ^ w
unfolding row
top-span = at-widths (λ w. (row w).top < 2 ^ w) (lit< tt) (lit< tt) (lit< tt) (lit< tt) (lit< tt)

-- .. and at widths 5, 6 and 7 below half of it
pub top-low : (w : ℕ) → T (width_r w) → 5 ≤ w → w ≤ 7 → (row w).top < 2 ^ (w - 1)
unfolding row
top-low = at-widths (λ w. 5 ≤ w → w ≤ 7 → (row w).top < 2 ^ (w - 1)) (λ a b. absurd (omega arith)) (λ a b. lit< tt) (λ a b. lit< tt) (λ a b. lit< tt) (λ a b. absurd (omega arith))
