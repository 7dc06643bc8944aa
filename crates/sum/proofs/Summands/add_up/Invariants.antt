-- `add_up`: each turn writes one byte, so that the bytes and what is held stay the sum of the digits passed. Assumes nothing.
use mathlib.Core.Path.{◌≡◌}
use Prim.Native.Nat.{◌+◌, ◌*◌, ◌≤◌, ◌<◌}
use lib.ListN.{length, take}
use Rattle.rules.specs.Integer.{integer}
use Rattle.sum.specs.inner.Adds.{Adds}
use Rattle.sum.proofs.Summands.add_up.Given as goal

abbrev pub invariant-loop-at : goal.invariant-loop-at
invariant-loop-at l = (l.at ≤ 32)
    × (length l.bytes ≡ 32)
    × (l.held.bits < 8)
    × (l.held.next ≤ 8 * l.at + l.held.bits)
    × Adds l.self.digits.now l.self.w l.at (integer (take l.at l.bytes)) l.held.next l.held.sum l.held.bits
