use Rattle.std.proofs.Common.{Some, ap}
use Rattle.sf_extract.proofs.SeatLemmas.{advanced_to, set_seat}
use Rattle.sf_extract.proofs.extractor.Extractor.advance.Goals as goal

pub invariant_of-self : goal.invariant_of-self
invariant_of-self c = (set_seat _ c.self.inside.seats.items c.in-Some.standing.track (Some c.seat_after.result) c.self.invariant.0 c.seat_after.ensures.seat, c.self.invariant.1)

pub returns-clause-moved : goal.returns-clause-moved
returns-clause-moved c =
    advanced_to c.self.inside.movie.now c.self.inside.seats.items (Some c.seat_after.result) c.args.self.now c.in-Some.standing c.self.view_is c.in-Some.ensures.exact
    (ap (λ p. Some p) c.seat_after.ensures.position)
