-- `first_fault`: the walk with a counter, digit by digit. Assumes nothing.
use mathlib.Core.Path.{◌≡◌}
use Prim.Native.Nat.{◌≤◌, ◌-◌, ◌^◌}
use lib.ListN.{length, drop}
use Rattle.rules.specs.Forms.{card_n}
use Rattle.rules.specs.inner.Scan.{scan}
use Rattle.naf_read.proofs.first_fault.Given as goal

abbrev pub invariant-loop-i : goal.invariant-loop-i
invariant-loop-i l = (l.i ≤ length l.digits) × (l.half ≡ 2 ^ (l.w - 1)) × (scan (card_n l.w) l.i l.held (drop l.i l.digits) ≡ scan (card_n l.w) 0 0 l.digits)
