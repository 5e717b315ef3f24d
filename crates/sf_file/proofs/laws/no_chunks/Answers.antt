use Rattle.sf_file.proofs.Holdable.{nothing_holdable}
use Rattle.sf_file.proofs.laws.no_chunks.Goals as goal

pub returns : goal.returns
returns c = nothing_holdable
