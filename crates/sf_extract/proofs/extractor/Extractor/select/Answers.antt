use Rattle.std.proofs.Common.{Option, Some, rules, sym, ap, subst, ◌∙◌, unwrap_or}
use Rattle.sf_extract.specs.inner.Seats.{IsSeat, position_in}
use Rattle.sf_extract.specs.declared.seats.Seat.{Seat}
use Rattle.sf_extract.proofs.SeatLemmas.{is_seat, looked_up, selected_to, set_seat}
use Rattle.sf_extract.proofs.extractor.Extractor.select.Goals as goal

pub invariant_of-self : goal.invariant_of-self
invariant_of-self c = (set_seat _ c.self.inside.seats.items c.args.t c.seat_selected.result c.self.invariant.0 c.seat_selected.ensures.seat, c.self.invariant.1)

pub returns-clause-ok : goal.returns-clause-ok
returns-clause-ok c = selected_to c.self.inside.movie.now c.self.inside.seats.items c.args.t c.seat_selected.result c.args.self.now c.self.view_is
    (c.seat_selected.ensures.position ∙ ap (λ (s : Option Seat). Some (unwrap_or (position_in s) 0)) (looked_up c.self.inside.seats.items c.args.t c.index.result.now (search rules) c.index.ensures))

pub seat_selected-requires-clause-seat : goal.seat_selected-requires-clause-seat
seat_selected-requires-clause-seat c =
    subst (λ (s : Option Seat). IsSeat c.self.inside.movie.now.movie c.args.t s) (sym (looked_up c.self.inside.seats.items c.args.t c.index.result.now (search rules) c.index.ensures))
    (is_seat c.self.inside.movie.now.movie c.self.inside.seats.items c.args.t c.self.invariant.0)
