use Rattle.std.proofs.Common.{ℕ, ◌≡◌, ◌+◌, ◌≤◌, ◌<◌, ◌∷◌, [], ◌++◌, List, length, drop, ap, subst, arith}
use Rattle.std.proofs.lemmas.List.{drop_more, drop_all}
use Rattle.sf_meaning.specs.declared.movie.PlainTrack.{PlainTrack}
use Rattle.sf_app.specs.ListText.{sample_lines, track_line, track_lines}
use Rattle.sf_app.proofs.Gathering.{Going, err_is, going_first, going_on, going_end, going_stop}
use Rattle.sf_app.specs.inner.Listing.{no_track, track_at}
use Rattle.sf_app.proofs.list_text.put_tracks.Goals as goal

-- the lines of a track and of its samples
abbrev own_lines : ℕ → ℕ → PlainTrack → List ℕ
own_lines scale i x = track_line scale i x ++ sample_lines i 0 x.samples

-- the lines of the tracks that are left
next_lines : (scale i : ℕ) (tracks : List PlainTrack) (x : PlainTrack) → drop i tracks ≡ x ∷ drop (i + 1) tracks
    → track_lines scale i (drop i tracks) ≡ own_lines scale i x ++ track_lines scale (i + 1) (drop (i + 1) tracks)
unfolding track_lines
next_lines scale i tracks x e = ap (track_lines scale i) e

no_lines : (scale i : ℕ) (tracks : List PlainTrack) → length tracks ≤ i → track_lines scale i (drop i tracks) ≡ []
unfolding track_lines
no_lines scale i tracks le = ap (track_lines scale i) (drop_all i tracks le)

pub loop-track-init : goal.loop-track-init
loop-track-init g c =
    let m = c.args.movie.now.movie in
    record {
      later = omega arith;
      going = going_first (track_lines m.scale 0 m.tracks) (g.T.Sink.seen c.args.text.now) c.args.gathered.now;
    }

pub loop-track-preserved : goal.loop-track-preserved
loop-track-preserved g c =
    let m = c.args.movie.now.movie in
    let i : ℕ = c.loop-track.track in
    let x : PlainTrack = track_at m i in
    let lt : i < length m.tracks = omega (arith, c.track_count-track-end.ensures.count, c.loop-track-test.true) in
    let left = next_lines m.scale i m.tracks x (drop_more m.tracks i no_track lt) in
    record {
      later = omega (arith, c.loop-track.invariant.later, c.put_track.ensures.later);
      going = going_on (track_lines m.scale 0 m.tracks) (own_lines m.scale i x) (track_lines m.scale (i + 1) (drop (i + 1) m.tracks))
          (g.T.Sink.seen c.args.text.now) (g.T.Sink.seen c.loop-track.text) (g.T.Sink.seen c.put_track.new.text)
          c.args.gathered.now c.loop-track.gathered c.put_track.new.gathered
          (subst (λ (rest : List ℕ). Going (track_lines m.scale 0 m.tracks) rest (g.T.Sink.seen c.args.text.now) c.args.gathered.now (g.T.Sink.seen c.loop-track.text) c.loop-track.gathered)
          left c.loop-track.invariant.going)
          c.in_ok-put_track.ensures.ok;
    }

pub returns-in_err-put_track-clause-err : goal.returns-in_err-put_track-clause-err
returns-in_err-put_track-clause-err g c =
    let m = c.args.movie.now.movie in
    let i : ℕ = c.loop-track.track in
    let x : PlainTrack = track_at m i in
    let lt : i < length m.tracks = omega (arith, c.track_count-track-end.ensures.count, c.loop-track-test.true) in
    let left = next_lines m.scale i m.tracks x (drop_more m.tracks i no_track lt) in
    err_is _ _ _ c.from_residual.ensures.1
    (going_stop (track_lines m.scale 0 m.tracks) (own_lines m.scale i x) (track_lines m.scale (i + 1) (drop (i + 1) m.tracks)) _
    (g.T.Sink.seen c.args.text.now) (g.T.Sink.seen c.loop-track.text) (g.T.Sink.seen c.put_track.new.text)
    c.args.gathered.now c.loop-track.gathered c.loop-track.invariant.later
    (subst (λ (rest : List ℕ). Going (track_lines m.scale 0 m.tracks) rest (g.T.Sink.seen c.args.text.now) c.args.gathered.now (g.T.Sink.seen c.loop-track.text) c.loop-track.gathered)
    left c.loop-track.invariant.going)
    c.in_err-put_track.ensures.err)

pub returns-clause-ok : goal.returns-clause-ok
returns-clause-ok g c =
    let m = c.args.movie.now.movie in
    going_end _ _ _ _ _
    (subst (λ (rest : List ℕ). Going (track_lines m.scale 0 m.tracks) rest (g.T.Sink.seen c.args.text.now) c.args.gathered.now (g.T.Sink.seen c.loop-track.text) c.loop-track.gathered)
    (no_lines m.scale c.loop-track.track m.tracks (omega (arith, c.track_count-track-end.ensures.count, c.loop-track-test.false))) c.loop-track.invariant.going)
