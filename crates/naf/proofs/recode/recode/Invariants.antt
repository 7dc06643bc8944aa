-- `recode`: the loop walks over the string's places, and a turn is one of the walk's two. Assumes nothing.
use Prim.Native.Nat.{◌-◌, ◌≤◌}
use Rattle.rules.specs.Integer.{integer}
use Rattle.naf.proofs.Places.{Walked}
use Rattle.naf.proofs.recode.recode.Given as goal

abbrev pub invariant-loop-at : goal.invariant-loop-at
invariant-loop-at l = (l.at ≤ 263) × (l.additions ≤ l.at) × Walked l.width.w 256 (integer l.bytes) l.at l.carry.bit l.digits l.count l.additions

abbrev pub decreases-loop-at : goal.decreases-loop-at
decreases-loop-at l = 264 - l.at
