use Rattle.std.proofs.Common.{◌≡◌, drop}
use Rattle.sf_meaning.specs.inner.Found.{pieces}
use Rattle.sf_moov.specs.TrakHeads.{traks_told}
use Rattle.sf_moov.proofs.TrakWalk.{told_after}
use Rattle.sf_moov.proofs.trak_heads.traks_told.Given as goal

abbrev pub invariant-loop-trak : goal.invariant-loop-trak
invariant-loop-trak l = told_after l.told (traks_told l.movie_scale (pieces (drop l.trak-index l.traks))) ≡ traks_told l.movie_scale (pieces l.traks)
