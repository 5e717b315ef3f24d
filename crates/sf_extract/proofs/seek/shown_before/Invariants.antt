use Rattle.std.proofs.Common.{◌-◌}
use Rattle.sf_extract.specs.inner.Orders.{IsParted, ordered}
use Rattle.sf_extract.proofs.seek.shown_before.Given as goal

abbrev pub invariant-loop-low : goal.invariant-loop-low
invariant-loop-low l = IsParted (ordered l.movie.movie l.t l.order) l.us l.low l.high

abbrev pub decreases-loop-low : goal.decreases-loop-low
decreases-loop-low l = l.high - l.low
