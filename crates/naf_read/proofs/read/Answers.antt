-- `read`: the length, the width, the digits and the sum, in this order. Assumes nothing.
use mathlib.Core.Path.{refl, sym, ◌∙◌}
use Prim.Native.Nat.{◌≤◌}
use native.Mathlib.Omega.{arith}
use borrow.Author.Rules.{rules}
use Rattle.std.proofs.lemmas.Grind.{common_steps}
use Rattle.std.specs.Prelude.{Err}
use Rattle.rules.specs.declared.Refusal.TheVariants.{WrongLength}
use Rattle.rules.specs.Forms.{card_n}
use Rattle.rules.specs.Refusals.{Offered}
use Rattle.rules.proofs.Verdicts.{handed-on, err-number}
use Rattle.rules.proofs.Refusals.{refused-1}
use Rattle.rules.proofs.Reading.{reads-refused, reads-faulty}
use Rattle.scalar.proofs.ScalarAnswers.{refused-answer}
use Rattle.naf_read.proofs.ReadLaws.{offered-n, wrong-width-n, sum-reads}
use Rattle.naf_read.proofs.read.Goals as goal
use Rattle.naf_read.proofs.read.Goals.{After-first_fault}

pub returns-then-digits-ne256 : goal.returns-then-digits-ne256
returns-then-digits-ne256 c =
    let a = c.args in
    reads-refused (card_n a.w) a.digits.now _ _ (Err WrongLength) ((refused-1 (card_n a.w) a.digits.now).1 (λ e. omega arith)) (λ z. omega arith) (refl, refl)

pub returns-then-not-contains : goal.returns-then-not-contains
returns-then-not-contains c = wrong-width-n _ _ _ _ (omega arith) (λ l h. grind (arith, common_steps)) (refl, refl)

offers : (c : After-first_fault) → let a = c.args in Offered (card_n a.w) a.digits.now
offers c =
    let a = c.args in
    let inside : (2 ≤ a.w) × (a.w ≤ 8) = search rules in
    offered-n a.digits.now a.w (omega arith) inside.0 inside.1

pub returns-in_err-first_fault : goal.returns-in_err-first_fault
returns-in_err-first_fault c =
    reads-faulty _ _ _ _ (offers (goal.at.returns-in_err-first_fault c).After-first_fault) _ (sym c.in_err-first_fault.was ∙ c.first_fault.ensures) (err-number refl)
    (refused-answer (handed-on c.from_residual.result c.in_err-first_fault.field-0.0 c.from_residual.ensures.1))

pub returns : goal.returns
returns c =
    sum-reads _ _ _ _ (offers (goal.at.returns c).After-first_fault) (sym c.first_fault.ensures ∙ c.in_ok-first_fault.was) c.read_sum.ensures
