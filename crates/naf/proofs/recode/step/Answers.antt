-- `step`: the window is the integer's, and with the carry it is even or is taken. Assumes nothing.
use Rattle.naf.specs.inner.Turns.{StepN}
use Rattle.naf.proofs.recode.step.Goals as goal

pub returns-then-x-eq0 : goal.returns-then-x-eq0
unfolding StepN
returns-then-x-eq0 c = rw (c.window.ensures.narrow c.args.width.most) at c.if-x-eq0.true

pub returns : goal.returns
unfolding StepN
returns c =
    let e = c.window.ensures.narrow c.args.width.most in
    let made = rw e at c.centre.ensures in
    let half = c.args.width.power in
    record { odd = rw e at c.if-x-eq0.false; is = rw (← half) made.0; carries = rw (← half) made.1 }
