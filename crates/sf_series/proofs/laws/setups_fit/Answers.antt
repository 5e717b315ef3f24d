use Rattle.sf_series.proofs.ReadBack.{setups_fits}
use Rattle.sf_series.proofs.laws.setups_fit.Goals as goal

pub returns : goal.returns
returns c = λ limits setups are readable under. setups_fits limits setups are readable under (c.no_chunks.ensures setups are readable)
