use Rattle.std.proofs.Common.{length}
use Rattle.sf_file.proofs.tracks.+totals.Given as goal

abbrev pub decreases-totals : goal.decreases-totals
decreases-totals l = length l.tracks.now
