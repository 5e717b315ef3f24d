use Rattle.std.proofs.Common.{None}
use Rattle.sf_gather.proofs.Plain.{plain_follows, plain_more, plain_stops}
use Rattle.sf_gather.proofs.laws.accepted_samples.Goals as goal

pub returns-clause-follow : goal.returns-clause-follow
returns-clause-follow c = λ samples sized. plain_follows c.args.given None samples sized

pub returns-clause-more : goal.returns-clause-more
returns-clause-more c = λ samples next whole accepted. plain_more c.args.given None samples next whole accepted

pub returns-clause-stops : goal.returns-clause-stops
returns-clause-stops c = λ samples rest next whole refused. plain_stops c.args.given None samples rest next whole refused
