-- `look`: the recoder's digits, gone through as far as they count. Assumes nothing.
use borrow.Author.Rules.{rules}
use Rattle.rules.proofs.Integer.{array-bytes}
use Rattle.acceptance.proofs.Looked.{looked, none-added}
use Rattle.acceptance.proofs.r.look.Goals as goal

pub returns : goal.returns
returns c =
    let b = array-bytes (search rules) (λ k. search rules) in
    (looked c.args.w b c.recode-made.ensures c.nonzero_among-seen.ensures, none-added c.args.w b c.recode-made.ensures)
