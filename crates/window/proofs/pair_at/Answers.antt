-- `window::pair_at` meets its contract: past the end the list gives 0. Assumes nothing.
use native.Mathlib.Omega.{arith}
use lib.ListN.{get_or-eq_default}
use Rattle.window.proofs.pair_at.Goals as goal

pub returns-else-i-bytes : goal.returns-else-i-bytes
returns-else-i-bytes c =
    let none = get_or-eq_default c.args.bytes.now 0 c.if-i-bytes.false in
    let first = c.byte_at.ensures in
    (omega (arith, none, first.0), omega (arith, first.1))
