use Rattle.sf_file.proofs.Holdable.{stands_holdable}
use Rattle.sf_file.proofs.laws.one_more_appended.Goals as goal

pub returns : goal.returns
returns c = λ begun chunks file chunk. stands_holdable chunk
