use Rattle.std.proofs.Common.{length}
use Rattle.sf_moov.proofs.movie.+put_traks.Given as goal

abbrev pub decreases-put_traks : goal.decreases-put_traks
decreases-put_traks l = length l.heads.now
