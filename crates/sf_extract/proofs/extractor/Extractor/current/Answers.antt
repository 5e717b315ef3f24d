use Rattle.std.proofs.Common.{ap, ◌∙◌}
use Rattle.sf_extract.specs.Current.{current}
use Rattle.sf_extract.specs.inner.Seats.{first_seated}
use Rattle.sf_extract.proofs.SeatLemmas.{current_counted, seats_show}
use Rattle.sf_extract.proofs.extractor.Extractor.current.Goals as goal

pub returns-clause-exact : goal.returns-clause-exact
returns-clause-exact c = c.first_seated.ensures ∙ ap (first_seated 0) c.deref.ensures.value ∙ seats_show _ 0 c.self.inside.seats.items c.self.invariant.0.each ∙ ap current c.self.view_is

pub returns-clause-track : goal.returns-clause-track
returns-clause-track c = (current_counted c.self.inside.movie.now c.self.inside.seats.items c.args.self.now c.first_seated.result c.self.invariant.0 c.self.view_is (c.first_seated.ensures ∙ ap (first_seated 0) c.deref.ensures.value)).0

pub returns-clause-sample : goal.returns-clause-sample
returns-clause-sample c = (current_counted c.self.inside.movie.now c.self.inside.seats.items c.args.self.now c.first_seated.result c.self.invariant.0 c.self.view_is (c.first_seated.ensures ∙ ap (first_seated 0) c.deref.ensures.value)).1
