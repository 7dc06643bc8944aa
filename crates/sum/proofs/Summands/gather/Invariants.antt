-- `gather`: each turn takes up one digit, so that the sum held stays that of the digits passed. Assumes nothing.
use Prim.Native.Nat.{◌+◌, ◌-◌, ◌≤◌}
use Rattle.sum.specs.inner.Adds.{Keeps}
use Rattle.sum.proofs.Summands.gather.Given as goal

abbrev pub invariant-loop-held : goal.invariant-loop-held
invariant-loop-held l = (l.held.next + l.initial.held.bits ≤ l.initial.held.next + l.held.bits)
    × Keeps l.self.digits.now l.self.w l.initial.held.next l.initial.held.sum l.initial.held.bits l.held.next l.held.sum l.held.bits

abbrev pub decreases-loop-held : goal.decreases-loop-held
decreases-loop-held l = 8 - l.held.bits
