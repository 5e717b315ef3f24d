use Rattle.std.proofs.Common.{◌≡◌, ◌≤◌, ◌^◌, List, length, sym, ap, ◌∙◌, subst, arith}
use Rattle.sf_layout.specs.Layout.{movie_box, start_of}
use Rattle.sf_file.specs.Open.{HeldTrack, OpenFile, rows_in, closing_box}
use Rattle.sf_file.specs.inner.Tracks.{held_in}
use Rattle.sf_file.proofs.MovieLengths.{box_counted}
use Rattle.sf_file.proofs.ClosedFile.{end_fits, stands_length}
use Rattle.sf_file.proofs.out_file.OutFile.size.Goals as goal

same_tracks : goal.returns-clause-bytes
same_tracks g c =
    let ts : List HeldTrack = held_in c.deref.result.now in
    let same : ts ≡ c.args.self.now.tracks = ap held_in c.deref.ensures.value ∙ ap (λ (f : OpenFile). f.tracks) c.self.view_is in
    let start : c.start_us.result ≡ start_of (rows_in ts) = c.start_us.ensures.start ∙ ap (λ (us : List HeldTrack). start_of (rows_in us)) (sym same) in
    let boxed = box_counted ts start c.totals.ensures.longest c.totals.ensures.traks c.size.ensures ∙ ap (λ (us : List HeldTrack). length (movie_box (rows_in us))) same in
    omega (arith, boxed, ap (λ (f : OpenFile). f.end) c.self.view_is)

pub overflow_add-result : goal.overflow_add-result
overflow_add-result g c =
    let box : length (closing_box c.args.self.now) ≤ 2 ^ 28 = subst (λ (f : OpenFile). length (closing_box f) ≤ 2 ^ 28) c.self.view_is c.self.invariant.box in
    omega (arith, same_tracks g c, box, end_fits {bytes = 0} c.self.invariant (omega arith), ap (λ (f : OpenFile). f.end) c.self.view_is)

pub returns-clause-bytes : goal.returns-clause-bytes
returns-clause-bytes g c = same_tracks g c

pub returns-clause-whole : goal.returns-clause-whole
returns-clause-whole g c begun chunks s = same_tracks g c ∙ sym (stands_length s)
