-- `digit_lines` puts a line for each digit that is not 0. The loop's invariant: the lines of the first i digits are put. Assumes nothing.
use mathlib.Core.Path.{◌≡◌}
use mathlib.Core.List.{◌++◌}
use lib.ListN.{take}
use Rattle.report.specs.Text.{digit_lines}
use Rattle.report.proofs.text.Text.digit_lines.Given as goal

abbrev pub invariant-loop-i : goal.invariant-loop-i
invariant-loop-i l = l.self ≡ l.initial.self ++ digit_lines 0 (take l.i l.digits)
