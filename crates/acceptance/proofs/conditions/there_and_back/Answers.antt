-- `there_and_back`: the recoder's refusal, or what the reader makes of its digits. Assumes nothing.
use borrow.Author.Rules.{rules}
use Rattle.rules.proofs.Integer.{array-bytes}
use Rattle.rules.proofs.Verdicts.{handed-on}
use Rattle.scalar.proofs.ScalarAnswers.{refused-answer}
use Rattle.acceptance.proofs.Together.{answer-bytes, back-refused, back_done}
use Rattle.acceptance.proofs.Accepted.{agrees}
use Rattle.acceptance.proofs.conditions.there_and_back.Goals as goal

pub returns-in_err-made : goal.returns-in_err-made
returns-in_err-made g c =
    back-refused (agrees g.F.Accepted.name c.args.w (g.met.F.Accepted.named c.args.w)) _ (array-bytes (search rules) (λ k. search rules)) c.recode-made.ensures c.in_err-made.was
    (refused-answer (handed-on c.from_residual.result c.in_err-made.field-0.0 c.from_residual.ensures.1))

pub returns : goal.returns
returns g c =
    back_done (agrees g.F.Accepted.name c.args.w (g.met.F.Accepted.named c.args.w)) _ (array-bytes (search rules) (λ k. search rules)) c.recode-made.ensures c.in_ok-made.was
    (answer-bytes c.read.result (λ s e. let i = rw e at c.read.type_inv in array-bytes (search rules) (λ k. search rules))) c.read.ensures
