-- `radix::recode::two_digits` meets its contract: each half of a byte with a carry is at most 16, so that its digit fits. Assumes nothing.
use native.Mathlib.Omega.{arith}
use borrow.Author.Rules.{rules}
use mir.Syntax.{w8}
use Rattle.digits.proofs.Narrowed.{narrow-fits, narrow-is}
use Rattle.radix.proofs.Halves.{half-fits}
use Rattle.radix.proofs.recode.two_digits.Goals as goal

pub overflow_cast-result : goal.overflow_cast-result
overflow_cast-result c = narrow-fits w8 (search rules) c.centre-first.ensures.0 (half-fits _ (omega arith))

pub overflow_cast-result-2 : goal.overflow_cast-result-2
overflow_cast-result-2 c = narrow-fits w8 (search rules) c.centre-second.ensures.0 (half-fits _ (omega arith))

pub returns : goal.returns
returns c =
    let first = c.centre-first.ensures in
    let second = c.centre-second.ensures in (
      narrow-is w8 (search rules) first.0 (half-fits _ (omega arith)),
      rw first.1 at (narrow-is w8 (search rules) second.0 (half-fits _ (omega arith))),
      rw first.1 at second.1,
    )
