-- `scalar::Scalar::zero` meets its contract, by computation. Assumes nothing.
use mathlib.Core.Path.{refl}
use Rattle.numbers.specs.Positional.{positional}
use Rattle.scalar.proofs.Scalar.zero.Goals as goal

pub returns : goal.returns
unfolding positional
returns c = refl
