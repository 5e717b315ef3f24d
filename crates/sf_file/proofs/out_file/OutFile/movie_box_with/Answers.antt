use Rattle.std.proofs.Common.{◌≡◌, ℕ, List, Option, length, sym, ap, subst, ◌∙◌, arith}
use Rattle.std.specs.Option.{unwrap_or}
use Rattle.sf_layout.specs.Layout.{start_of, movie_box}
use Rattle.sf_file.specs.Open.{HeldTrack, OpenFile, rows_in, tracks_with}
use Rattle.sf_file.specs.inner.Tracks.{KeptTrack, JoinsFrom, held_in}
use Rattle.sf_file.proofs.OneMore.{joins_from}
use Rattle.sf_file.proofs.MovieLengths.{box_counted}
use Rattle.sf_file.proofs.out_file.OutFile.movie_box_with.Goals as goal

pub totals_with-requires-clause-joins : goal.totals_with-requires-clause-joins
totals_with-requires-clause-joins g c =
    let chunk = c.args.chunk.now in
    let same : held_in c.deref-2.result.now ≡ c.args.self.now.tracks = ap held_in c.deref-2.ensures.value ∙ ap (λ (f : OpenFile). f.tracks) c.self.view_is in
    subst (λ (ts : List HeldTrack). JoinsFrom 0 ts chunk) (sym same)
    (joins_from 0 chunk.track c.args.self.now.tracks chunk c.requires.track (omega arith) c.requires.among c.requires.joins)

pub returns-clause-exact : goal.returns-clause-exact
returns-clause-exact g c =
    let chunk = c.args.chunk.now in
    let ts : List HeldTrack = tracks_with 0 (held_in c.deref-2.result.now) c.self.inside.end chunk in
    let start : c.unwrap_or-start_us.result ≡ start_of (rows_in ts) =
    c.unwrap_or-start_us.ensures ∙ ap (λ (o : Option ℕ). unwrap_or o 0) (c.earliest_with.ensures c.self.inside.end)
    ∙ ap (λ (ks : List KeptTrack). start_of (rows_in (tracks_with 0 (held_in ks) c.self.inside.end chunk))) (c.deref.ensures.value ∙ sym c.deref-2.ensures.value) in
    box_counted ts start c.totals_with.ensures.longest c.totals_with.ensures.traks c.size.ensures
    ∙ ap (λ (ks : List KeptTrack). length (movie_box (rows_in (tracks_with 0 (held_in ks) c.self.inside.end chunk)))) c.deref-2.ensures.value
    ∙ ap (λ (f : OpenFile). length (movie_box (rows_in (tracks_with 0 f.tracks f.end chunk)))) c.self.view_is
