use Rattle.sf_gather.proofs.Fronts.{grows_by, closes_by}
use Rattle.sf_gather.proofs.laws.one_more_sample.Goals as goal

pub returns-clause-grows : goal.returns-clause-grows
returns-clause-grows c = λ samples next last. grows_by c.args.given samples next last

pub returns-clause-closes : goal.returns-clause-closes
returns-clause-closes c = λ samples next last. closes_by c.args.given samples next last
