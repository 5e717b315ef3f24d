use Rattle.sf_gather.proofs.Tails.{proper_front, proper_extends, extended_proper}
use Rattle.sf_gather.proofs.laws.proper_by_tail.Goals as goal

pub returns-clause-front : goal.returns-clause-front
returns-clause-front c = λ chunks more. proper_front c.args.track c.args.scale chunks more

pub returns-clause-only : goal.returns-clause-only
returns-clause-only c = λ chunks next. proper_extends c.args.track c.args.scale chunks next

pub returns-clause-enough : goal.returns-clause-enough
returns-clause-enough c = λ chunks next. extended_proper c.args.track c.args.scale chunks next
