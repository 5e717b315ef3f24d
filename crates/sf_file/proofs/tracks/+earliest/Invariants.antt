use Rattle.std.proofs.Common.{length}
use Rattle.sf_file.proofs.tracks.+earliest.Given as goal

abbrev pub decreases-earliest : goal.decreases-earliest
decreases-earliest l = length l.tracks.now
