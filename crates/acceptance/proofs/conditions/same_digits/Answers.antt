-- `same_digits`: both recoded, the first refusal, and the comparison. Assumes nothing.
use mathlib.Core.Path.{sym, ◌∙◌}
use borrow.Author.Rules.{rules}
use Rattle.rules.proofs.Integer.{array-bytes}
use Rattle.rules.proofs.Verdicts.{handed-on}
use Rattle.acceptance.proofs.Together.{compared-refused, compared-done}
use Rattle.acceptance.proofs.Accepted.{agrees}
use Rattle.acceptance.proofs.conditions.same_digits.Goals as goal

pub returns-in_err-and : goal.returns-in_err-and
returns-in_err-and g c =
    compared-refused (agrees g.F.Accepted.name c.args.w (g.met.F.Accepted.named c.args.w)) _ _ (array-bytes (search rules) (λ k. search rules)) (array-bytes (search rules) (λ k. search rules))
    c.recode-first.ensures c.recode-second.ensures (sym c.and.ensures ∙ c.in_err-and.was) (handed-on c.from_residual.result c.in_err-and.field-0.0 c.from_residual.ensures.1)

pub returns : goal.returns
returns g c =
    compared-done (agrees g.F.Accepted.name c.args.w (g.met.F.Accepted.named c.args.w)) _ _ (array-bytes (search rules) (λ k. search rules)) (array-bytes (search rules) (λ k. search rules))
    c.recode-first.ensures c.recode-second.ensures (sym c.and.ensures ∙ c.in_ok-and.was) c.equal_digits.ensures
