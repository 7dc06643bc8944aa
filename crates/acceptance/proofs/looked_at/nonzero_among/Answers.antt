-- `nonzero_among`: what the chain counts is the sum that 01 says. Assumes nothing.
use mathlib.Core.Path.{◌∙◌}
use Rattle.acceptance.proofs.Tallies.{counted-among}
use Rattle.acceptance.proofs.looked_at.nonzero_among.Goals as goal

pub returns : goal.returns
returns c = let a = c.args in c.counted.ensures ∙ counted-among a.digits.now a.n
