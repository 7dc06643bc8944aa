-- `radix::recode::digit_at` meets its contract: the window is the integer's, and `centre` takes it with its carry. Assumes nothing.
use mathlib.Core.Path.{◌≡◌}
use Prim.Native.Nat.{◌-◌, ◌*◌, ◌%◌, ◌^◌}
use native.Mathlib.Omega.{arith}
use Rattle.numbers.proofs.Windows.{one_shl}
use Rattle.radix.proofs.recode.digit_at.Goals as goal

pub returns : goal.returns
returns c =
    let a = c.args in
    let half : (1 * 2 ^ (a.w - 1)) % 2 ^ 32 ≡ 2 ^ (a.w - 1) = one_shl 32 (a.w - 1) (omega arith) in
    let e = rw (half, c.window.ensures.narrow (omega arith)) at c.centre.ensures in
    (e.0, e.1)
