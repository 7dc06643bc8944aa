-- `centre`: the window less what of its span is carried. Assumes nothing.
use mathlib.Core.Path.{◌≡◌, ◌∙◌}
use Prim.Native.Nat.{ℕ, ◌*◌, ◌≤◌}
use native.Mathlib.Omega.{arith}
use native.Mathlib.Nat.{mul-le-mul_right}
use mir.Syntax.{w64}
use mir.Val.{to_z, of_z}
use borrow.Author.Rules.{rules}
use Rattle.numbers.proofs.Centred.{taken-off}
use Rattle.digits.proofs.centre.centre.Goals as goal

-- at most the whole span is taken off
most : (c h : ℕ) → c ≤ 1 → c * (2 * h) ≤ 1 * (2 * h)
most c h l = mul-le-mul_right (2 * h) l

pub overflow_mul-carry : goal.overflow_mul-carry
overflow_mul-carry c = let m = most _ c.args.half c.carry_of-carry.result.small in record { fits = omega (arith, m) }

pub less-digit-requires : goal.less-digit-requires
less-digit-requires c = let m = most _ c.args.half c.carry_of-carry.result.small in (omega arith, omega (arith, m))

pub returns : goal.returns
returns c =
    let a = c.args in
    let carry = c.carry_of-carry.ensures in
    let back : to_z w64 (of_z w64 c.less-digit.result) ≡ c.less-digit.result = search rules in
    (back ∙ c.less-digit.ensures ∙ rw carry (taken-off a.half a.window), carry)
