use Rattle.std.proofs.Common.{◌≤◌}
use Rattle.sf_gather.proofs.tests.feed.Given as goal

abbrev pub invariant-loop-pair : goal.invariant-loop-pair
invariant-loop-pair l = l.gather.chunk.number ≤ l.pair-index
