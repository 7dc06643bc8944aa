-- `less`: the difference fits the wider type. Assumes nothing.
use native.Mathlib.Omega.{arith}
use mir.Syntax.{w64}
use Rattle.digits.proofs.Signed.{apart_fits, apart-is}
use Rattle.digits.proofs.centre.less.Goals as goal

pub overflow_sub-result : goal.overflow_sub-result
overflow_sub-result c = apart_fits w64 c.args.window c.args.span (omega arith) (omega arith)

pub returns : goal.returns
returns c = apart-is w64 c.args.window c.args.span (omega arith) (omega arith)
