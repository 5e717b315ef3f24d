use Rattle.std.proofs.Common.{◌≡◌}
use Rattle.sf_movie.proofs.parts.with_cursors.Given as goal

abbrev pub invariant-loop-track : goal.invariant-loop-track
invariant-loop-track l = l.all ≡ l.yielded
