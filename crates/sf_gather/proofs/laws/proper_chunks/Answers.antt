use Rattle.std.proofs.Common.{[]}
use Rattle.sf_gather.proofs.ProperLists.{chunks_joined, chunks_proper}
use Rattle.sf_gather.proofs.laws.proper_chunks.Goals as goal

pub returns-clause-samples : goal.returns-clause-samples
returns-clause-samples c = λ samples. chunks_joined c.args.given 0 [] samples

pub returns-clause-proper : goal.returns-clause-proper
returns-clause-proper c = λ samples. chunks_proper c.args.given samples

pub returns-clause-front : goal.returns-clause-front
returns-clause-front c = λ number so_far samples. chunks_joined c.args.given number so_far samples
