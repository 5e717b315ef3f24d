-- What was read of a track, as the code holds it.
use Rattle.sf_meaning.specs.inner.Found.{piece}
use Rattle.sf_meaning.specs.TrackHeads.{TrackHeads}
use Rattle.sf_meaning.specs.declared.track_heads.TrackHeads.{TrackHeads as Heads}

-- the headers of a track
abbrev pub heads_view : Heads → TrackHeads
heads_view h = record { scale = h.scale; shift = h.shift; own = h.own; stbl = piece h.stbl }
