-- A window less its span where it is half the span or more: how a window of bits becomes a signed digit. Assumes nothing.
use Rattle.std.specs.Prelude.{ℕ, ◌*◌, cond, ltb, ℤ, pos}
use Rattle.std.proofs.Math.IntN.{sub_ℕ}

-- The digit of a window r, where h is half the span: r itself below h, and r - 2h from h on.
unfoldable pub centred : ℕ → ℕ → ℤ
centred h r = cond (ltb r h) (pos r) (sub_ℕ r (2 * h))

-- What it carries to the next digit: 1 where the span was taken off.
unfoldable pub carried : ℕ → ℕ → ℕ
carried h r = cond (ltb r h) 0 1
