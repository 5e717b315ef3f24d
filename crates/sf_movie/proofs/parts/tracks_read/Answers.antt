use Rattle.std.proofs.Common.{◌≡◌, ◌+◌, List, [], ◌∷◌, drop, sym, ap, ◌∙◌}
use Rattle.std.proofs.lemmas.List.{drop_more, drop_all}
use Rattle.sf_meaning.specs.inner.Found.{piece, pieces}
use Rattle.sf_meaning.specs.declared.found.Found.{Found}
use Rattle.sf_movie.proofs.MovieRead.{tracks_from, tracks_none, tracks_begin, tracks_step, tracks_wrong}
use Rattle.sf_movie.proofs.parts.tracks_read.Goals as goal

pub loop-i-init : goal.loop-i-init
loop-i-init c = rw c.new-tracks.ensures (tracks_begin c.args.file_len c.args.movie_scale 0 (pieces c.args.traks.now))

pub loop-i-preserved : goal.loop-i-preserved
loop-i-preserved c =
    let x : Found = c.index-traks-i.result in
    let behind : List Found = drop (c.loop-i.i + 1) c.args.traks.now in
    let split : drop c.loop-i.i c.args.traks.now ≡ x ∷ behind = drop_more c.args.traks.now c.loop-i.i x c.loop-i-test.true ∙ ap (λ (y : Found). y ∷ behind) (sym c.index-traks-i.is) in
    let whole = ap (λ (fs : List Found). tracks_from c.args.file_len c.args.movie_scale c.loop-i.i c.loop-i.tracks (pieces fs)) (sym split) ∙ c.loop-i.invariant in
    rw c.in_ok-push-in-Ok.ensures.ok (tracks_step c.args.file_len c.args.movie_scale c.loop-i.i c.loop-i.tracks (piece x) (pieces behind) c.in-Ok.track _ whole c.in-Ok.ensures)

pub returns-in-Err : goal.returns-in-Err
returns-in-Err c =
    let x : Found = c.index-traks-i.result in
    let behind : List Found = drop (c.loop-i.i + 1) c.args.traks.now in
    let split : drop c.loop-i.i c.args.traks.now ≡ x ∷ behind = drop_more c.args.traks.now c.loop-i.i x c.loop-i-test.true ∙ ap (λ (y : Found). y ∷ behind) (sym c.index-traks-i.is) in
    let whole = ap (λ (fs : List Found). tracks_from c.args.file_len c.args.movie_scale c.loop-i.i c.loop-i.tracks (pieces fs)) (sym split) ∙ c.loop-i.invariant in
    tracks_wrong c.args.file_len c.args.movie_scale c.loop-i.i c.loop-i.tracks (piece x) (pieces behind) _ c.in-Err.fault whole c.in-Err.ensures

pub returns : goal.returns
returns c =
    let none : drop c.loop-i.i c.args.traks.now ≡ [] = drop_all c.loop-i.i c.args.traks.now c.loop-i-test.false in
    let whole = ap (λ (fs : List Found). tracks_from c.args.file_len c.args.movie_scale c.loop-i.i c.loop-i.tracks (pieces fs)) (sym none) ∙ c.loop-i.invariant in
    sym whole ∙ tracks_none c.args.file_len c.args.movie_scale c.loop-i.i c.loop-i.tracks
