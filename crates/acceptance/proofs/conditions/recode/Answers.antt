-- `recode`: the library's promise in 01's words. Assumes nothing.
use borrow.Author.Rules.{rules}
use Rattle.rules.proofs.Integer.{array-bytes}
use Rattle.acceptance.proofs.Recoders.{recoding}
use Rattle.acceptance.proofs.Accepted.{agrees}
use Rattle.acceptance.proofs.conditions.recode.Goals as goal

pub returns : goal.returns
returns g c =
    recoding (agrees g.F.Accepted.name c.args.w (g.met.F.Accepted.named c.args.w)) _ (array-bytes (search rules) (λ k. search rules)) c.recode.ensures
