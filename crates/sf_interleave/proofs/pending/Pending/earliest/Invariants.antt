use Rattle.std.proofs.Common.{◌≡◌, drop, option_copied}
use Rattle.sf_interleave.specs.Waiting.{earlier_chunk, earliest_front}
use Rattle.sf_interleave.proofs.pending.Pending.earliest.Given as goal

abbrev pub invariant-loop-queue : goal.invariant-loop-queue
invariant-loop-queue l = earlier_chunk (option_copied l.found) (earliest_front (drop l.queue-index l.queue-items)) ≡ earliest_front l.queue-items
