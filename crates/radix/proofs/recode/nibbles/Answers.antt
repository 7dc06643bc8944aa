-- `radix::recode::nibbles` meets its contract. The loop's invariant: the digits of the bytes below k and their carry are made, and above them all is 0. Assumes nothing.
use mathlib.Core.Path.{◌≡◌, refl, sym, ◌∙◌}
use Prim.Native.Nat.{ℕ, ◌+◌, ◌*◌, ◌/◌}
use native.Mathlib.Omega.{arith}
use borrow.Author.Rules.{rules}
use lib.ListN.{get_or, set}
use mir.Syntax.{w8, w64}
use mir.Val.{to_z, of_z, Fits}
use mir.Facts.{to_z_pos}
use Rattle.digits.proofs.Narrowed.{narrow-fits, narrow-is}
use Rattle.rules.specs.Integer.{integer, Bytes}
use Rattle.rules.specs.Widths.{row}
use Rattle.radix.proofs.Halves.{half-fits, low_half, high_half}
use Rattle.radix.proofs.Carries.{recoding-none, recoding-more}
use Rattle.radix.proofs.Due.{due-16}
use Rattle.radix.proofs.Made.{Whole, whole}
use Rattle.radix.proofs.recode.nibbles.Goals as goal
use Rattle.radix.proofs.recode.nibbles.Goals.{After-centre-below}

pub loop-k-init : goal.loop-k-init
loop-k-init c = (search rules, rw c.none-carry.ensures (recoding-none 4 (integer c.args.bytes) (omega arith)))

pub loop-k-preserved : goal.loop-k-preserved
loop-k-preserved c =
    let bytes = c.args.bytes in
    let loop = c.loop-k in
    let two = c.two_digits-two in
    let byte : (k : ℕ) → Fits w8 (get_or bytes k 0) = λ k. search rules in
    let back : to_z w8 (of_z w8 two.result.low) ≡ two.result.low = search rules in
    let back' : to_z w8 (of_z w8 two.result.high) ≡ two.result.high = search rules in
    let n : 2 * (loop.k + 1) ≡ 2 * loop.k + 1 + 1 = omega arith in
    let one = recoding-more 4 (integer bytes) (omega arith) (2 * loop.k) loop.digits loop.carry.bit _ _ _ (omega arith) loop.invariant.1 (sym (low_half bytes (λ k. (byte k).fits) loop.k)) (back ∙ two.ensures.0) refl in
    (search rules, rw n (recoding-more 4 (integer bytes) (omega arith) (2 * loop.k + 1) _ _ _ _ _ (omega arith) one (sym (high_half bytes (λ k. (byte k).fits) loop.k)) (back' ∙ two.ensures.1) two.ensures.2))

pub overflow_cast-digits : goal.overflow_cast-digits
overflow_cast-digits c = narrow-fits w8 (search rules) c.centre-below.ensures.0 (half-fits _ (omega arith))

-- the upper half of the last byte and its carry
last : (c : After-centre-below)
    → Whole 4 (integer c.args.bytes) (set c.loop-k.digits 62 (to_z w8 (of_z w8 (to_z w64 (of_z w64 c.centre-below.result.digit)))))
    (get_or c.args.bytes 31 0 / 16 + c.centre-below.result.carry.bit)
unfolding row
last c =
    let bytes = c.args.bytes in
    let loop = c.loop-k in
    let made = c.centre-below.ensures in
    let byte : (k : ℕ) → Fits w8 (get_or bytes k 0) = λ k. search rules in
    let b : Bytes 32 bytes = record { long = search rules; small = λ k. (byte k).fits } in
    let k : loop.k ≡ 31 = omega arith in
    let digit = narrow-is w8 (search rules) made.0 (half-fits _ (omega arith)) in
    let one = recoding-more 4 (integer bytes) (omega arith) 62 loop.digits loop.carry.bit _ _ _ (omega arith) (rw k at loop.invariant.1) (sym (low_half bytes b.small 31)) digit made.1 in
    whole 4 b (due-16 bytes c.requires) one (sym (high_half bytes b.small 31))

pub overflow_cast-digits-3 : goal.overflow_cast-digits-3
overflow_cast-digits-3 c = record { sfits = omega (arith, (last (goal.at.overflow_cast-digits-3 c).After-centre-below).small) }

pub returns : goal.returns
unfolding row
returns c =
    let n = get_or c.args.bytes 31 0 / 16 + c.centre-below.result.carry.bit in
    rw (to_z_pos w8 {n = n} (omega (arith, (last (goal.at.returns c).After-centre-below).small))) (last (goal.at.returns c).After-centre-below).string
