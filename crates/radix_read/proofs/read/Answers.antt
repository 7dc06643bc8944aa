-- `read`: the length, the width's rule, the digits and the sum, in this order. Assumes nothing.
use mathlib.Core.Path.{refl, sym, ◌∙◌}
use native.Mathlib.Omega.{arith}
use lib.Seq.{length-take-le}
use Rattle.std.specs.Prelude.{Err}
use Rattle.rules.specs.declared.Refusal.TheVariants.{WrongLength}
use Rattle.rules.specs.Forms.{card_r}
use Rattle.rules.specs.Refusals.{Offered}
use Rattle.rules.proofs.Verdicts.{handed-on, err-number, refusal-number}
use Rattle.rules.proofs.Refusals.{refused-1, verdict-width}
use Rattle.rules.proofs.Reading.{reads-refused, reads-faulty}
use Rattle.rules.proofs.Table.{row_fits}
use Rattle.scalar.proofs.ScalarAnswers.{refused-answer}
use Rattle.radix_read.proofs.ReadLaws.{sum-reads}
use Rattle.radix_read.proofs.read.Goals as goal
use Rattle.radix_read.proofs.read.Goals.{After-first_fault}

pub returns-then-digits-ne64 : goal.returns-then-digits-ne64
returns-then-digits-ne64 c =
    let a = c.args in
    reads-refused (card_r a.w) a.digits.now _ _ (Err WrongLength) ((refused-1 (card_r a.w) a.digits.now).1 (λ e. omega arith)) (λ z. omega arith) (refl, refl)

pub returns-in_err-rule : goal.returns-in_err-rule
returns-in_err-rule c =
    let a = c.args in
    let refusal = c.in_err-rule.field-0.0 in
    reads-refused (card_r a.w) a.digits.now _ _ (Err refusal)
    (verdict-width (card_r a.w) a.digits.now c.in_err-rule.ensures.answered (refusal-number refusal) (omega arith)) (refusal-number refusal)
    (refused-answer (handed-on c.from_residual.result refusal c.from_residual.ensures.1))

-- past the length and the width
offers : (c : After-first_fault) → let a = c.args in Offered (card_r a.w) a.digits.now
offers c = record { long = omega arith; allowed = rw c.in_ok-rule.ensures.at_width at c.in_ok-rule.rule.allowed }

pub returns-in_err-first_fault : goal.returns-in_err-first_fault
returns-in_err-first_fault c =
    reads-faulty _ _ _ _ (offers (goal.at.returns-in_err-first_fault c).After-first_fault) _ (sym c.in_err-first_fault.was ∙ rw c.in_ok-rule.ensures.at_width at c.first_fault.ensures) (err-number refl)
    (refused-answer (handed-on c.from_residual-in_err-first_fault.result c.in_err-first_fault.field-0.0 c.from_residual-in_err-first_fault.ensures.1))

pub slice_bounds-read_sum-end : goal.slice_bounds-read_sum-end
slice_bounds-read_sum-end c =
    let s = c.in_ok-rule.rule in
    sym (length-take-le _ _ (omega (arith, (row_fits s.w s.allowed).most, s.counted)))

pub returns : goal.returns
returns c =
    let s = c.in_ok-rule.rule in
    let a = c.args in
    let same = c.in_ok-rule.ensures.at_width in
    sum-reads a.digits.now a.w _ _ (offers (goal.at.returns c).After-first_fault) (sym (rw same at c.first_fault.ensures) ∙ c.in_ok-first_fault.was)
    (rw (← rw same at s.counted, ← rw same at s.ended) c.read_sum.ensures)
