use Rattle.std.proofs.Common.{None, sym}
use Rattle.sf_extract.proofs.SeatLemmas.{seat_moved, set_seat}
use Rattle.sf_extract.proofs.extractor.Extractor.unselect.Goals as goal

pub invariant_of-self : goal.invariant_of-self
invariant_of-self c = (set_seat _ c.self.inside.seats.items c.args.t None c.self.invariant.0 tt, c.self.invariant.1)

pub returns-clause-ok : goal.returns-clause-ok
returns-clause-ok c = seat_moved c.self.inside.movie.now c.self.inside.seats.items c.args.t None c.args.self.now (sym c.self.view_is)
