-- `scalar::Scalar::is_odd` meets its contract: an integer is odd exactly if its lowest byte is. Assumes nothing.
use Prim.Native.Nat.{ℕ, ◌%◌}
use mathlib.Core.Path.{◌≡◌, ap}
use native.Mathlib.Omega.{arith}
use lib.Dec.{eqb}
use lib.ListN.{get_or}
use Rattle.numbers.proofs.Positional.{front}
use Rattle.rules.specs.Integer.{integer}
use Rattle.scalar.proofs.Scalar.is_odd.Goals as goal

pub returns : goal.returns
returns c =
    let bs = c.args.self.bytes in
    let e : get_or bs 0 0 % 2 ≡ integer bs % 2 = omega (arith, front 256 bs 0) in
    ap (λ (n : ℕ). eqb n 1) e
