-- The fourteen figures hold, by computation. Assumes nothing.
use mathlib.Core.Path.{◌≡◌, refl}
use mathlib.Core.Bool.{true}
use Rattle.rules.specs.Digits.{weighted, count, non_zeros}
use Rattle.rules.specs.Widths.{row}
use Rattle.rules.specs.Forms.{digit_n, digit_r}
use Rattle.rules.specs.Verdicts.{◌or_else◌}
use Rattle.rules.specs.Test.{crowded, fault_at, first_fault, range_fault, verdict}
use Rattle.rules.specs.Figures.{all_hold, holds, figures, placed}

pub figures-hold : all_hold figures ≡ true
unfolding all_hold holds figures placed weighted count non_zeros row digit_n digit_r ◌or_else◌ crowded fault_at first_fault range_fault verdict
figures-hold = refl
