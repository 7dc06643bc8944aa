-- `number` puts a number below 1000 in decimal, one, two or three figures. Assumes nothing.
use Rattle.report.proofs.TextLaws.{one-figure, two-figures, three-figures}
use Rattle.report.proofs.text.Text.number.Goals as goal

pub returns-then-n-lt10 : goal.returns-then-n-lt10
returns-then-n-lt10 c = rw (c.push.ensures, c.figure.ensures, one-figure c.args.n c.if-n-lt10.true)

pub returns-then-n-lt100 : goal.returns-then-n-lt100
returns-then-n-lt100 c =
    rw (c.push-then-n-lt100.ensures, c.figure-then-n-lt100.ensures, c.figure-then-n-lt100-2.ensures, two-figures c.args.n c.if-n-lt10.false c.if-n-lt100.true)

pub returns : goal.returns
returns c =
    rw (c.push-2.ensures, c.figure-2.ensures, c.figure-3.ensures, c.figure-4.ensures, three-figures c.args.n c.if-n-lt100.false)
