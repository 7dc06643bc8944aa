-- A digit narrowed to a machine type that holds half its span: the cast loses nothing. Over the type. Assumes nothing.
use mathlib.Core.Path.{◌≡◌, ◌∙◌}
use Prim.Native.Nat.{ℕ, ◌+◌, ◌-◌, ◌*◌, ◌%◌, ◌^◌, ◌<◌, ◌≤◌}
use native.Mathlib.Nat.{mod-lt}
use native.Mathlib.Omega.{arith}
use lib.IntN.{ℤ, pos, negsuc}
use lib.Pow.{pow_pos, pow_mono}
use mir.Syntax.{Width, w64}
use mir.Val.{SFits, to_z, of_z, hbits}
use mir.Facts.{to_z-of_z}
use Rattle.numbers.specs.Centred.{centred}
use Rattle.numbers.proofs.Balance.{up, dn}
use Rattle.numbers.proofs.Centred.{centred-is}
use Rattle.numbers.proofs.Rounding.{twice}

between-fits : (v : Width) (z : ℤ) → up z < 2 ^ hbits v → dn z ≤ 2 ^ hbits v → SFits v z
between-fits v (pos n) l m = record { sfits = l }
between-fits v (negsuc n) l m = record { sfits = omega arith }

-- the digit of a window that is at most its span, where h is half of it
pub centred-fits : (v : Width) (h r : ℕ) → 0 < h → h ≤ 2 ^ hbits v → r ≤ 2 * h → SFits v (centred h r)
centred-fits v h r h⁺ l m =
    let c = centred-is h r h⁺ m in
    between-fits v (centred h r) (omega (arith, c.below)) (omega (arith, c.above))

-- ---- the cast of a digit of 64 bits

module _ (v : Width) {d z : ℤ} (held : SFits w64 d) (is : d ≡ z) (fits : SFits v z) where
  back : to_z w64 (of_z w64 d) ≡ z
  back = to_z-of_z held ∙ is

  pub narrow-fits : SFits v (to_z w64 (of_z w64 d))
  narrow-fits = rw back fits

  pub narrow-is : to_z v (of_z v (to_z w64 (of_z w64 d))) ≡ z
  narrow-is = rw back (to_z-of_z fits)

-- .. that of a window of w bits and a carry
module _ (v : Width) (w a c : ℕ) (w⁺ : 0 < w) (l : w - 1 ≤ hbits v) (bit : c ≤ 1) {d : ℤ} (held : SFits w64 d) (is : d ≡ centred (2 ^ (w - 1)) (a % 2 ^ w + c)) where
  fits : SFits v (centred (2 ^ (w - 1)) (a % 2 ^ w + c))
  fits = centred-fits v (2 ^ (w - 1)) (a % 2 ^ w + c) (pow_pos (w - 1)) (pow_mono l) (omega (arith, mod-lt a {m = 2 ^ w} (pow_pos w), twice w w⁺))

  pub window-fits : SFits v (to_z w64 (of_z w64 d))
  window-fits = narrow-fits v held is fits

  pub window-is : to_z v (of_z v (to_z w64 (of_z w64 d))) ≡ centred (2 ^ (w - 1)) (a % 2 ^ w + c)
  window-is = narrow-is v held is fits
