use Rattle.std.proofs.Common.{length}
use Rattle.sf_moov.proofs.lengths.+traks_len.Given as goal

abbrev pub decreases-traks_len : goal.decreases-traks_len
decreases-traks_len l = length l.heads.now
