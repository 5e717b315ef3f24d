use Rattle.std.proofs.Common.{refl, inr}
use Rattle.sf_meaning.proofs.TrackWalk.{behind_64, none_behind_64}
use Rattle.sf_meaning.proofs.movie_box.few_tracks.Goals as goal

pub returns-then-traks-gt64 : goal.returns-then-traks-gt64
returns-then-traks-gt64 c = record { few = inr (rw (behind_64 c.args.traks.now c.index-traks-64.result c.if-traks-gt64.true c.index-traks-64.is) refl); count = tt }

pub returns : goal.returns
returns c = record { few = rw (none_behind_64 c.args.traks.now c.if-traks-gt64.false) refl; count = c.if-traks-gt64.false }
