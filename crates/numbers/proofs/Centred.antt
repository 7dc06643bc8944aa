-- A window's digit and its carry: they make up the window, and the digit is from -h to h - 1. Assumes nothing.
use mathlib.Core.Path.{◌≡◌, refl, ap}
use mathlib.Core.Bool.{Bool, true, false, not, cond}
use Prim.Native.Nat.{ℕ, ◌+◌, ◌*◌, ◌≤◌, ◌<◌}
use native.Mathlib.Omega.{arith}
use lib.Dec.{T, ltb, ltb→lt, nltb→le}
use lib.IntN.{ℤ, pos, negsuc, sub_ℕ}
use Rattle.numbers.specs.Centred.{centred, carried}
use Rattle.numbers.proofs.Balance.{up, dn, same, sub-balance, sub-up}

pub record CentredAs (h r : ℕ) (d : ℤ) (c : ℕ) : Type 0 where
  pub below : up d < h
  pub above : dn d ≤ h
  pub total : r + dn d ≡ up d + 2 * h * c
  pub bit : c ≤ 1

-- also for a window that a carry has brought up to the whole span: then the digit is 0
pub centred-is : (h r : ℕ) → 0 < h → r ≤ 2 * h → CentredAs h r (centred h r) (carried h r)
unfolding centred carried
centred-is h r h⁺ l = go (ltb r h) (λ t. ltb→lt r h t) (λ t. nltb→le r h t)
  where
    go : (b : Bool) → (T b → r < h) → (T (not b) → h ≤ r) → CentredAs h r (cond b (pos r) (sub_ℕ r (2 * h))) (cond b 0 1)
    go true f g = record { below = f tt; above = omega arith; total = omega arith; bit = omega arith }
    go false f g =
        let k = g tt in
        let e = sub-balance r (2 * h) in
        let s = sub-up r (2 * h) (omega arith) in
        record { below = omega arith; above = omega arith; total = omega arith; bit = omega arith }

pub carried-bit : (h r : ℕ) → carried h r ≤ 1
unfolding carried
carried-bit h r = go (ltb r h)
  where
    go : (b : Bool) → cond b 0 1 ≤ 1
    go true = omega arith
    go false = omega arith

-- none of the span is taken off, or all of it
pub taken-off : (h r : ℕ) → sub_ℕ r (carried h r * (2 * h)) ≡ centred h r
unfolding carried centred
taken-off h r = go (ltb r h)
  where
    go : (b : Bool) → sub_ℕ r (cond b 0 1 * (2 * h)) ≡ cond b (pos r) (sub_ℕ r (2 * h))
    go true = let none = 0 * (2 * h) in same (sub_ℕ r none) (pos r) (omega (arith, sub-balance r none))
    go false = ap (sub_ℕ r) (omega arith)

-- the widest windows: 128 is -128, 255 is -1, 256 and 0 are 0, and 127 is itself
pub centred-edges : (centred 128 128 ≡ negsuc 127) × (centred 128 255 ≡ negsuc 0) × (centred 128 256 ≡ pos 0) × (centred 128 0 ≡ pos 0) × (centred 128 127 ≡ pos 127)
unfolding centred
centred-edges = (refl, refl, refl, refl, refl)
