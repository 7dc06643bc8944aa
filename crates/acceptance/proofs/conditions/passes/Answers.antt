-- `passes`: the test is done. Assumes nothing.
use Rattle.acceptance.proofs.Readers.{asked}
use Rattle.acceptance.proofs.Accepted.{agrees}
use Rattle.acceptance.proofs.conditions.passes.Goals as goal

pub returns : goal.returns
returns g c = let a = c.args in asked (agrees g.F.Accepted.name a.w (g.met.F.Accepted.named a.w)) a.digits.now c.test.ensures c.is_ok.ensures.value
