-- `add_digit`: nothing is lost in 32 bits, and the sum held is that of one digit more. Assumes nothing.
use native.Mathlib.Omega.{arith}
use Rattle.sum.proofs.SumLaws.{DigitAdded, digit-added, adds-more}
use Rattle.sum.proofs.Summands.add_digit.Goals as goal
use Rattle.sum.proofs.Summands.add_digit.Goals.{After-offset_at-digit}

added : (c : After-offset_at-digit) → DigitAdded c.args.held.sum c.args.held.bits c.offset_at-digit.result c.args.self.now.w
added c = let a = c.args in digit-added a.held.sum a.held.bits c.offset_at-digit.result a.self.now.w (a.held.small, c.requires.0, c.offset_at-digit.ensures.1, a.self.now.least, a.self.now.most)

pub overflow_sub-result : goal.overflow_sub-result
overflow_sub-result c = (added (goal.at.overflow_sub-result c).After-offset_at-digit).raised-enough

pub invariant_of-result : goal.invariant_of-result
invariant_of-result c = record { small = (added (goal.at.invariant_of-result c).After-offset_at-digit).sum-small; bounded = omega (arith, c.requires.0, c.args.self.now.most) }

pub returns-clause-keeps : goal.returns-clause-keeps
returns-clause-keeps c at low a =
    adds-more c.offset_at-digit.result _ a c.offset_at-digit.ensures.0 (added (goal.at.returns-clause-keeps c).After-offset_at-digit).sum_is
