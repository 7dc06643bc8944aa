-- `radix::recode::as_radix_2w` meets its contract: a width with no row is refused, width 4 is radix 16, and the others take every scalar. Assumes nothing.
use mathlib.Core.Path.{refl, ◌∙◌}
use native.Mathlib.Omega.{arith}
use Rattle.rules.specs.Widths.{width_r}
use Rattle.rules.specs.Forms.{card_r}
use Rattle.rules.proofs.Promises.{recodes-done, recodes-width}
use Rattle.rules.proofs.Table.{width-between}
use Rattle.rules.proofs.Verdicts.{width-allowed, refusal-number}
use Rattle.radix.proofs.Due.{due-2w}
use Rattle.radix.proofs.recode.as_radix_2w.Goals as goal

pub returns-in-Err : goal.returns-in-Err
returns-in-Err c =
    let a = c.args in
    recodes-width (card_r a.w) a.s.bytes c.in-Err.ensures.answered (refusal-number _) c.refused.ensures

pub returns-then-w-eq4 : goal.returns-then-w-eq4
returns-then-w-eq4 c = rw c.if-w-eq4.true c.as_radix_16.ensures

pub returns : goal.returns
returns c =
    let a = c.args in
    let bytes = a.s.bytes in
    let b = width-between 4 8 a.w (width-allowed (width_r a.w) c.in-Ok.ensures.answered refl) in
    let e = c.done.ensures in
    recodes-done (card_r a.w) bytes (due-2w bytes a.w (omega (arith, b.low)) b.high) e.0 (rw e.1 c.windows.ensures) (e.2 ∙ c.in-Ok.ensures.counted) e.3
