-- `first_fault`: the walk stops at the first digit that breaks its rule. Assumes nothing.
use mathlib.Core.Path.{◌≡◌}
use Prim.Native.Nat.{◌≤◌}
use lib.ListN.{length, drop}
use Rattle.rules.specs.Forms.{card_r}
use Rattle.rules.specs.inner.Scan.{scan}
use Rattle.radix_read.proofs.Rule.first_fault.Given as goal

abbrev pub invariant-loop-i : goal.invariant-loop-i
invariant-loop-i l = (l.i ≤ length l.digits) × (scan (card_r l.self.w) 0 0 l.digits ≡ scan (card_r l.self.w) l.i 0 (drop l.i l.digits))
