-- `rest`: a byte less stays below its power of two. Assumes nothing.
use Rattle.sum.proofs.SumLaws.{rest-small}
use Rattle.sum.proofs.Held.rest.Goals as goal

pub invariant_of-result-clause-small : goal.invariant_of-result-clause-small
invariant_of-result-clause-small c = rest-small c.args.self.small c.requires
