use Rattle.sf_gather.proofs.Fronts.{front_whole, front_cut}
use Rattle.sf_gather.proofs.laws.longest_front.Goals as goal

pub returns-clause-whole : goal.returns-clause-whole
returns-clause-whole c = λ number so_far samples. front_whole c.args.given number so_far samples

pub returns-clause-cut : goal.returns-clause-cut
returns-clause-cut c = λ number so_far samples rest next. front_cut c.args.given number so_far samples rest next
