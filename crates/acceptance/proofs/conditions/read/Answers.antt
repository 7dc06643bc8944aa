-- `read`: the library's promise in 01's words. Assumes nothing.
use Rattle.acceptance.proofs.Readers.{reading}
use Rattle.acceptance.proofs.Accepted.{agrees}
use Rattle.acceptance.proofs.conditions.read.Goals as goal

pub returns : goal.returns
returns g c = reading (agrees g.F.Accepted.name c.args.w (g.met.F.Accepted.named c.args.w)) c.read.ensures
