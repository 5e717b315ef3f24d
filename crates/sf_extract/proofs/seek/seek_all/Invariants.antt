use Rattle.std.proofs.Common.{◌≡◌, ◌++◌, take, drop}
use Rattle.sf_extract.specs.SyncAt.{all_sought}
use Rattle.sf_extract.specs.inner.Seats.{AreTheSeats, positions_in}
use Rattle.sf_extract.proofs.seek.seek_all.Given as goal

abbrev pub invariant-loop-t : goal.invariant-loop-t
invariant-loop-t l =
    (positions_in (take l.t l.seats) ++ all_sought l.movie.movie l.us l.mode l.t (positions_in (drop l.t l.seats)) ≡ all_sought l.movie.movie l.us l.mode 0 (positions_in l.fn.seats))
    × AreTheSeats l.movie.movie l.seats
