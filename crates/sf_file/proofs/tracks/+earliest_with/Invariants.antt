use Rattle.std.proofs.Common.{length}
use Rattle.sf_file.proofs.tracks.+earliest_with.Given as goal

abbrev pub decreases-earliest_with : goal.decreases-earliest_with
decreases-earliest_with l = length l.tracks.now
