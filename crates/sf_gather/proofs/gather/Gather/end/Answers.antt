use Rattle.sf_gather.proofs.Standing.{stands_proper}
use Rattle.sf_gather.proofs.gather.Gather.end.Goals as goal

pub returns-clause-proper : goal.returns-clause-proper
returns-clause-proper c = λ samples stands. stands_proper samples c.args.self stands
