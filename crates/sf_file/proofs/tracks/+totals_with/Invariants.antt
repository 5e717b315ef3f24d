use Rattle.std.proofs.Common.{length}
use Rattle.sf_file.proofs.tracks.+totals_with.Given as goal

abbrev pub decreases-totals_with : goal.decreases-totals_with
decreases-totals_with l = length l.tracks.now
