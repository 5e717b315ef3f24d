use Rattle.sf_gather.proofs.Growing.{closed_first}
use Rattle.sf_gather.proofs.laws.closed_chunks_stay.Goals as goal

pub returns : goal.returns
returns c = λ samples more. closed_first c.args.given samples more
