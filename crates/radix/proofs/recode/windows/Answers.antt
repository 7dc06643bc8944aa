-- `radix::recode::windows` meets its contract. The loop's invariant: the digits below i and their carry are made, and from i up all is 0. Assumes nothing.
use mathlib.Core.Path.{◌≡◌, refl}
use Prim.Native.Nat.{ℕ, ◌+◌, ◌-◌, ◌*◌, ◌/◌, ◌^◌, ◌≤◌, ◌<◌}
use native.Mathlib.Omega.{arith}
use native.Mathlib.Nat.{mul-le-mul_left}
use borrow.Author.Rules.{rules}
use lib.ListN.{get_or}
use mir.Syntax.{w8}
use mir.Val.{Fits}
use mir.Facts.{to_z_pos}
use Rattle.digits.proofs.Narrowed.{window-fits, window-is}
use Rattle.rules.specs.Integer.{integer, Bytes}
use Rattle.rules.specs.Widths.{row}
use Rattle.rules.proofs.Table.{RowFits, row_fits}
use Rattle.radix.proofs.Carries.{recoding-none, recoding-more}
use Rattle.shape.proofs.Rows.{width-held}
use Rattle.radix.proofs.Due.{due-2w}
use Rattle.radix.proofs.Made.{Whole, whole}
use Rattle.radix.proofs.recode.windows.Goals as goal
use Rattle.radix.proofs.recode.windows.Goals.{After-window}

-- the row of a width that is asked for
fits : {w n : ℕ} → (4 < w) × (w ≤ 8) × (n ≡ (row w).digits) → RowFits w
fits {w} p = row_fits w (width-held w (omega arith) (omega arith))

pub overflow_sub-last : goal.overflow_sub-last
overflow_sub-last c = omega (arith, (fits c.requires).several)

pub loop-i-init : goal.loop-i-init
loop-i-init c = (search rules, omega (arith, (fits c.requires).most), rw c.none-carry.ensures (recoding-none c.args.w (integer c.args.bytes) (omega arith)))

pub overflow_mul-w : goal.overflow_mul-w
overflow_mul-w c = let l : c.loop-i.i ≤ 64 = omega arith in omega (arith, mul-le-mul_left c.args.w l)

pub overflow_cast-digits : goal.overflow_cast-digits
overflow_cast-digits c =
    let a = c.args in
    let loop = c.loop-i in
    window-fits w8 a.w (integer a.bytes / 2 ^ (a.w * loop.i)) loop.carry.bit (omega arith) (omega arith) loop.invariant.2.bit (search rules) c.digit_at-c.ensures.0

pub loop-i-preserved : goal.loop-i-preserved
loop-i-preserved c =
    let a = c.args in
    let loop = c.loop-i in
    let made = c.digit_at-c.ensures in
    let digit = window-is w8 a.w (integer a.bytes / 2 ^ (a.w * loop.i)) loop.carry.bit (omega arith) (omega arith) loop.invariant.2.bit (search rules) made.0 in
    (search rules, search rules, recoding-more a.w (integer a.bytes) (omega arith) loop.i loop.digits loop.carry.bit _ _ _ (omega arith) loop.invariant.2 refl digit made.1)

pub overflow_mul-w-2 : goal.overflow_mul-w-2
overflow_mul-w-2 c = let l : c.args.n - 1 ≤ 64 = omega arith in omega (arith, mul-le-mul_left c.args.w l)

-- the last window and the carry
last : (c : After-window)
    → Whole c.args.w (integer c.args.bytes) c.loop-i.digits (c.window.result + c.loop-i.carry.bit)
last c =
    let w = c.args.w in
    let bytes = c.args.bytes in
    let loop = c.loop-i in
    let byte : (k : ℕ) → Fits w8 (get_or bytes k 0) = λ k. search rules in
    let b : Bytes 32 bytes = record { long = search rules; small = λ k. (byte k).fits } in
    let n : c.args.n ≡ (row w).digits = c.requires.2 in
    let i : loop.i ≡ (row w).digits - 1 = omega arith in
    whole w b (due-2w bytes w (omega arith) (omega arith)) (rw i at loop.invariant.2) (rw n at (c.window.ensures.narrow (omega arith)))

pub overflow_cast-digits-2 : goal.overflow_cast-digits-2
overflow_cast-digits-2 c = record { sfits = omega (arith, (last (goal.at.overflow_cast-digits-2 c).After-window).small) }

pub returns : goal.returns
returns c =
    let loop = c.loop-i in
    let e = to_z_pos w8 {n = c.window.result + loop.carry.bit} (omega (arith, (last (goal.at.returns c).After-window).small)) in
    rw (e, c.requires.2) (last (goal.at.returns c).After-window).string
