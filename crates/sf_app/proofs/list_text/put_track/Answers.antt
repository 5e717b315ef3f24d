use Rattle.std.proofs.Common.{◌≡◌, ℕ, List, subst, ◌∙◌}
use Rattle.std.proofs.lemmas.Result.{on_ok_weaker}
use Rattle.sf_app.specs.ListText.{sample_lines, track_line}
use Rattle.sf_app.specs.inner.Gathered.{Takes}
use Rattle.sf_app.proofs.Gathering.{takes_twice, stop_after, stop_first, if_err_weaker, err_is}
use Rattle.sf_app.specs.inner.Listing.{track_at}
use Rattle.sf_app.proofs.list_text.put_track.Goals as goal

pub returns-clause-ok : goal.returns-clause-ok
returns-clause-ok g c =
    let m = c.args.movie.now.movie in
    let own : List ℕ = track_line m.scale c.args.track (track_at m c.args.track) in
    let t = g.T.Sink.seen c.args.text.now in
    let t' = g.T.Sink.seen c.put_line.new.text in
    let t'' = g.T.Sink.seen c.put_samples.new.text in
    let is : c.as_str.result.now ≡ own = c.as_str.ensures.value ∙ c.in_ok-line.ensures in
    let first : Takes own t c.args.gathered.now t' c.put_line.new.gathered = subst (λ (l : List ℕ). Takes l t c.args.gathered.now t' c.put_line.new.gathered) is c.in_ok-put_line.ensures.ok in
    on_ok_weaker c.put_samples.result
    (λ x. takes_twice own (sample_lines c.args.track 0 (track_at m c.args.track).samples) t t' t'' c.args.gathered.now c.put_line.new.gathered c.put_samples.new.gathered first x)
    c.put_samples.ensures.ok

pub returns-clause-err : goal.returns-clause-err
returns-clause-err g c =
    let m = c.args.movie.now.movie in
    let own : List ℕ = track_line m.scale c.args.track (track_at m c.args.track) in
    let t = g.T.Sink.seen c.args.text.now in
    let t' = g.T.Sink.seen c.put_line.new.text in
    let t'' = g.T.Sink.seen c.put_samples.new.text in
    let is : c.as_str.result.now ≡ own = c.as_str.ensures.value ∙ c.in_ok-line.ensures in
    let first : Takes own t c.args.gathered.now t' c.put_line.new.gathered = subst (λ (l : List ℕ). Takes l t c.args.gathered.now t' c.put_line.new.gathered) is c.in_ok-put_line.ensures.ok in
    if_err_weaker c.put_samples.result _ _
    (λ denied x. stop_after own (sample_lines c.args.track 0 (track_at m c.args.track).samples) denied t t' t'' c.args.gathered.now c.put_line.new.gathered c.put_line.ensures.later first x)
    c.put_samples.ensures.err

pub returns-in_err-put_line-clause-err : goal.returns-in_err-put_line-clause-err
returns-in_err-put_line-clause-err g c =
    let m = c.args.movie.now.movie in
    let own : List ℕ = track_line m.scale c.args.track (track_at m c.args.track) in
    let is : c.as_str.result.now ≡ own = c.as_str.ensures.value ∙ c.in_ok-line.ensures in
    err_is _ _ _ c.from_residual-in_err-put_line.ensures.1
    (stop_first own (sample_lines c.args.track 0 (track_at m c.args.track).samples) _
    (g.T.Sink.seen c.args.text.now) (g.T.Sink.seen c.put_line.new.text) c.args.gathered.now
    (rw is at c.in_err-put_line.ensures.err))
