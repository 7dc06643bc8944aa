-- `radix::recode::nibbles` meets its contract. The loop's invariant: the digits of the bytes below k and their carry are made, and above them all is 0. Assumes nothing.
use Prim.Native.Nat.{◌*◌, ◌≤◌}
use Rattle.rules.specs.Integer.{integer}
use Rattle.radix.proofs.Carries.{Recoding}
use Rattle.radix.proofs.recode.nibbles.Given as goal

abbrev pub invariant-loop-k : goal.invariant-loop-k
invariant-loop-k l = (l.k ≤ 31) × Recoding 4 (integer l.bytes) (2 * l.k) l.digits l.carry.bit
