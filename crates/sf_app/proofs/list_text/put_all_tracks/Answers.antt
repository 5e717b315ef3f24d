use Rattle.std.proofs.Common.{◌≡◌, ℕ, List, [], ◌++◌, subst}
use Rattle.std.proofs.lemmas.Result.{on_ok_weaker}
use Rattle.sf_app.specs.ListText.{track_lines}
use Rattle.sf_app.specs.inner.Gathered.{Stops, Takes}
use Rattle.sf_app.proofs.Gathering.{all_put, err_is, if_err_weaker, stop_end}
use Rattle.sf_app.proofs.list_text.put_all_tracks.Goals as goal
use Rattle.sf_world.specs.Views.{SinkView}
use Rattle.sf_world.specs.declared.failures.Denied.{Denied}

-- lines, where nothing was gathered before
from_nothing : (lines : List ℕ) (t t' : SinkView) (g g' : List ℕ) → g ≡ [] → Takes lines t g t' g' → Takes lines t [] t' g'
from_nothing lines t t' g g' none x = subst (λ (h : List ℕ). Takes lines t h t' g') none x

stop_from_nothing : (lines : List ℕ) (denied : Denied) (t t' : SinkView) (g : List ℕ) → g ≡ [] → Stops (g ++ lines) denied t t' → Stops lines denied t t'
stop_from_nothing lines denied t t' g none x = subst (λ (h : List ℕ). Stops (h ++ lines) denied t t') none x

pub returns-in_err-put_tracks-clause-err : goal.returns-in_err-put_tracks-clause-err
returns-in_err-put_tracks-clause-err g c =
    err_is _ _ _ c.from_residual.ensures.1 (stop_from_nothing _ _ _ _ _ c.new-gathered.ensures c.in_err-put_tracks.ensures.err)

pub returns-clause-ok : goal.returns-clause-ok
returns-clause-ok g c =
    let m = c.args.movie.now.movie in
    let t = g.T.Sink.seen c.args.text.now in
    let t' = g.T.Sink.seen c.put_tracks.new.text in
    let taken : Takes (track_lines m.scale 0 m.tracks) t [] t' c.put_tracks.new.gathered = from_nothing _ _ _ _ _ c.new-gathered.ensures c.in_ok-put_tracks.ensures.ok in
    on_ok_weaker c.put_gathered.result (λ e. all_put (track_lines m.scale 0 m.tracks) t t' (g.T.Sink.seen c.put_gathered.new.text) c.put_tracks.new.gathered taken e) c.put_gathered.ensures.ok

pub returns-clause-err : goal.returns-clause-err
returns-clause-err g c =
    let m = c.args.movie.now.movie in
    let t = g.T.Sink.seen c.args.text.now in
    let t' = g.T.Sink.seen c.put_tracks.new.text in
    let taken : Takes (track_lines m.scale 0 m.tracks) t [] t' c.put_tracks.new.gathered = from_nothing _ _ _ _ _ c.new-gathered.ensures c.in_ok-put_tracks.ensures.ok in
    if_err_weaker c.put_gathered.result _ _
    (λ denied s. stop_end (track_lines m.scale 0 m.tracks) denied t t' (g.T.Sink.seen c.put_gathered.new.text) c.put_tracks.new.gathered c.put_tracks.ensures.later taken s)
    c.put_gathered.ensures.err
