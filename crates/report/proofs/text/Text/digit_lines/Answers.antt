-- `digit_lines`: the text after one line more. Assumes nothing.
use mathlib.Core.List.{append_assoc}
use native.Mathlib.Omega.{arith}
use Rattle.std.proofs.Common.{rules, ◌≡◌, w8, to_z, of_z}
use Rattle.rules.specs.Digits.{digit_at}
use Rattle.report.proofs.TextLaws.{lines_more}
use Rattle.report.proofs.text.Text.digit_lines.Goals as goal

pub loop-i-preserved : goal.loop-i-preserved
loop-i-preserved c =
    let l = c.loop-i in
    let ds = c.args.digits.now in
    let same : to_z w8 (of_z w8 (digit_at ds l.i)) ≡ digit_at ds l.i = search rules in
    rw (c.digit_line.ensures, same, l.invariant, lines_more ds l.i (omega arith), append_assoc)
