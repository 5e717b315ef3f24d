use Rattle.std.proofs.Common.{◌≡◌, ◌≤◌, length, drop}
use Rattle.sf_extract.specs.inner.Seats.{first_seated}
use Rattle.sf_extract.proofs.seats.first_seated.Given as goal

abbrev pub invariant-loop-t : goal.invariant-loop-t
invariant-loop-t l = (l.t ≤ length l.seats) × (l.found ≡ first_seated l.t (drop l.t l.seats))

abbrev pub decreases-loop-t : goal.decreases-loop-t
decreases-loop-t l = l.t
