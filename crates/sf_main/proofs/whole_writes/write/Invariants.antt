-- No more bytes were written than there are.
use Rattle.std.proofs.Common.{length, ◌≤◌}
use Rattle.sf_main.proofs.whole_writes.write.Given as goal

abbrev pub invariant-loop : goal.invariant-loop
invariant-loop g l = l.done ≤ length l.bytes
