use Rattle.sf_meaning.proofs.SampleAt.{each_sample, all_samples}
use Rattle.sf_meaning.proofs.laws.samples_one_by_one.Goals as goal

pub returns : goal.returns
returns c = record { each = each_sample; all = all_samples }
