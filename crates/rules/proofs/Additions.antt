-- N: at most one digit in w is not zero, so the additions are at most n/w rounded up. Assumes nothing.
use mathlib.Core.Path.{◌≡◌}
use mathlib.Core.List.{List}
use Prim.Native.Nat.{ℕ, zero, suc, ◌+◌, ◌-◌, ◌*◌, ◌/◌, ◌≤◌}
use native.Mathlib.Nat.{le-div_iff_mul-le}
use native.Mathlib.Omega.{arith}
use lib.ListN.{length}
use lib.IntN.{ℤ}
use Rattle.rules.specs.Digits.{non_zeros, additions}
use Rattle.rules.specs.Forms.{form_n}
use Rattle.rules.specs.Keeps.{Passes}
use Rattle.rules.proofs.ZeroDigit.{odd-nonzero, nonzero-is, Zeros, no-zeros, zeros-head}
use Rattle.rules.proofs.NonAdjacent.{NonAdjacent, end, skip, put, keeps-nonadjacent}
use Rattle.rules.proofs.Table.{width-between}

-- a string that begins with `held` zeros, at most g of them
spread : {g : ℕ} {ds : List ℤ} (held : ℕ) → NonAdjacent g ds → Zeros held ds → held ≤ g → non_zeros ds * suc g + held ≤ length ds + g
unfolding non_zeros
spread held end z l = omega arith
spread held (skip {ds} p) z l = omega (arith, spread (held - 1) p (record { zero-at = λ j h. z.zero-at (suc j) (omega arith) }) (omega arith))
spread {g} zero (put {d} {ds} o m y p) z l = rw (odd-nonzero d o) (omega (arith, spread g p y (omega arith)))
spread (suc held) (put {d} {ds} o m y p) z l = absurd (nonzero-is d (odd-nonzero d o) (zeros-head z))

module _ (widest n w : ℕ) where
  pub additions-bound : (ds : List ℤ) → Passes (form_n widest n w) ds → additions ds ≤ (n + (w - 1)) / w
  unfolding additions
  additions-bound ds p =
      let b = width-between 2 widest w p.allowed in
      let e : suc (w - 1) ≡ w = omega (arith, b.low) in
      let l = p.long in
      let s : non_zeros ds * w ≤ n + (w - 1) = omega (arith, rw e at (spread 0 (keeps-nonadjacent widest n w p.keeps) (no-zeros ds) (omega arith))) in
      (le-div_iff_mul-le {k = w} {x = non_zeros ds} {y = n + (w - 1)} (omega (arith, b.low))).1 s
