-- `radix::recode::windows` meets its contract. The loop's invariant: the digits below i and their carry are made, and from i up all is 0. Assumes nothing.
use Prim.Native.Nat.{◌≤◌, ◌<◌}
use Rattle.rules.specs.Integer.{integer}
use Rattle.radix.proofs.Carries.{Recoding}
use Rattle.radix.proofs.recode.windows.Given as goal

abbrev pub invariant-loop-i : goal.invariant-loop-i
invariant-loop-i l = (l.i ≤ l.last) × (l.last < 64) × Recoding l.w (integer l.bytes) l.i l.digits l.carry.bit
