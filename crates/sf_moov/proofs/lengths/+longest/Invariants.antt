use Rattle.std.proofs.Common.{length}
use Rattle.sf_moov.proofs.lengths.+longest.Given as goal

abbrev pub decreases-longest : goal.decreases-longest
decreases-longest l = length l.heads.now
