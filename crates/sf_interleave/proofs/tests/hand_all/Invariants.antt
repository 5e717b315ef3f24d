use Rattle.std.proofs.Common.{◌≡◌, length}
use Rattle.sf_interleave.proofs.tests.hand_all.Given as goal

abbrev pub invariant-loop-track : goal.invariant-loop-track
invariant-loop-track l = length l.pending ≡ 3
