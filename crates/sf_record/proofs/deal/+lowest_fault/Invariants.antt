use Rattle.std.proofs.Common.{length}
use Rattle.sf_record.proofs.deal.+lowest_fault.Given as goal

abbrev pub decreases-lowest_fault : goal.decreases-lowest_fault
decreases-lowest_fault g l = length l.pumps.now
