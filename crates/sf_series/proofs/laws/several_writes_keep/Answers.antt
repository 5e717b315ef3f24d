use Rattle.sf_series.proofs.WrittenOut.{written_kept}
use Rattle.sf_series.proofs.laws.several_writes_keep.Goals as goal

pub returns-clause-kept : goal.returns-clause-kept
returns-clause-kept c = written_kept
