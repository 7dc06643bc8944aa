-- `form_line` puts the form line, piece by piece. Assumes nothing.
use mathlib.Core.List.{append_assoc}
use native.Mathlib.Omega.{arith}
use lib.ListN.{length-append}
use Rattle.report.specs.Ascii.{ascii}
use Rattle.report.specs.Text.{form_line}
use Rattle.report.proofs.TextLaws.{decimal_length}
use Rattle.report.proofs.text.Text.form_line.Goals as goal

pub push-requires-5 : goal.push-requires-5
push-requires-5 c =
    rw (c.number-2.ensures, c.push-4.ensures, c.number.ensures, c.push-3.ensures, c.push-2.ensures, c.push.ensures)
    (simp length-append (omega (arith, decimal_length c.args.w, decimal_length c.args.count)))

pub returns : goal.returns
unfolding form_line ascii
returns c =
    rw (c.push-5.ensures, c.number-2.ensures, c.push-4.ensures, c.number.ensures, c.push-3.ensures, c.push-2.ensures, c.push.ensures)
    (simp append_assoc)
