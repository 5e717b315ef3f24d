use Rattle.sf_file.proofs.Holdable.{holdable_more}
use Rattle.sf_file.proofs.laws.one_more_chunk.Goals as goal

pub returns : goal.returns
returns c = holdable_more
