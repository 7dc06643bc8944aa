-- `digit` puts a digit with its sign. Assumes nothing.
use mathlib.Core.Path.{ap}
use mathlib.Core.List.{List, ◌++◌, append_assoc}
use Prim.Native.Nat.{ℕ}
use Rattle.digits.proofs.Signed.{back8}
use Rattle.report.specs.Ascii.{ascii}
use Rattle.report.proofs.TextLaws.{below-zero, from-zero}
use Rattle.report.proofs.text.Text.digit.Goals as goal

pub returns-then-d-lt0 : goal.returns-then-d-lt0
unfolding ascii
returns-then-d-lt0 c =
    let s = back8 c.args.d c.ranges.d in
    rw (c.number.ensures, c.push.ensures, c.from-size.ensures, c.unsigned_abs.ensures.value, s, append_assoc)
    (ap (λ (t : List ℕ). c.args.self.now ++ t) (below-zero c.args.d (rw s at c.if-d-lt0.true)))

pub returns : goal.returns
returns c =
    let s = back8 c.args.d c.ranges.d in
    rw (c.number-2.ensures, c.from-size.ensures, c.unsigned_abs.ensures.value, s, from-zero c.args.d (rw s at c.if-d-lt0.false))
