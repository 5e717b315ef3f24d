use Rattle.std.proofs.Common.{◌≡◌, [], replicate}
use Rattle.sf_interleave.proofs.pending.Pending.new.Given as goal

abbrev pub invariant-loop : goal.invariant-loop
invariant-loop l = l.queues.items ≡ replicate l.counter []
