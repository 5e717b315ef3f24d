use Rattle.std.proofs.Common.{subst}
use Rattle.sf_app.specs.ListText.{listed, start_line, track_lines}
use Rattle.sf_app.specs.inner.Gathered.{Stops}
use Rattle.sf_world.specs.declared.failures.Denied.{Denied}
use Rattle.sf_world.specs.declared.failures.Denied.TheVariants.{Failed}
use Rattle.sf_app.proofs.Gathering.{start_some, stop_some, stop_within}
use Rattle.sf_app.proofs.list_text.put_movie.Goals as goal

pub returns-in-Err-Failed-put_all_tracks-clause-puts : goal.returns-in-Err-Failed-put_all_tracks-clause-puts
unfolding listed
returns-in-Err-Failed-put_all_tracks-clause-puts g c =
    stop_within (start_line c.args.movie.now.movie.start_us) (track_lines c.args.movie.now.movie.scale 0 c.args.movie.now.movie.tracks) Failed _ _ _
    c.put_start.ensures.later (rw c.start_us.ensures at c.in-Ok.ensures.puts) (subst (λ (d : Denied). Stops (track_lines c.args.movie.now.movie.scale 0 c.args.movie.now.movie.tracks) d (g.T.Sink.seen c.put_start.new.text) (g.T.Sink.seen c.put_all_tracks.new.text)) c.in-Err-Failed-put_all_tracks.field-0-is c.in-Err-Failed-put_all_tracks.ensures.err)

pub returns-in-Err-NoMemory-put_all_tracks-clause-puts : goal.returns-in-Err-NoMemory-put_all_tracks-clause-puts
unfolding listed
returns-in-Err-NoMemory-put_all_tracks-clause-puts g c =
    stop_some (start_line c.args.movie.now.movie.start_us) (track_lines c.args.movie.now.movie.scale 0 c.args.movie.now.movie.tracks) _ _ _
    (start_some c.args.movie.now.movie.start_us) (rw c.start_us.ensures at c.in-Ok.ensures.puts) (subst (λ (d : Denied). Stops (track_lines c.args.movie.now.movie.scale 0 c.args.movie.now.movie.tracks) d (g.T.Sink.seen c.put_start.new.text) (g.T.Sink.seen c.put_all_tracks.new.text)) c.in-Err-NoMemory-put_all_tracks.field-0-is c.in-Err-NoMemory-put_all_tracks.ensures.err)
