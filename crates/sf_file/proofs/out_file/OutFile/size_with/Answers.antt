use Rattle.std.proofs.Common.{◌≡◌, ℕ, List, IfSome, length, ap, subst, ◌∙◌, arith}
use Rattle.std.specs.Prelude.{slice_get}
use Rattle.std.proofs.lemmas.List.{length-map}
use Rattle.std.proofs.lemmas.Option.{slice_get_within}
use Rattle.sf_tick.specs.declared.types.Stored.{Stored}
use Rattle.sf_layout.specs.Layout.{stored_bytes}
use Rattle.sf_file.specs.Open.{HeldTrack, OpenFile, count_of}
use Rattle.sf_file.specs.inner.Tracks.{KeptTrack, held_in}
use Rattle.sf_file.proofs.Room.{follow_short}
use Rattle.sf_file.proofs.ClosedFile.{bytes_short, count_more, end_fits, stands_box_with, stands_count, stands_length_with}
use Rattle.sf_file.proofs.out_file.OutFile.size_with.Goals as goal

pub bytes_of-requires-clause-short : goal.bytes_of-requires-clause-short
bytes_of-requires-clause-short g c =
    rw c.as_slice-samples.ensures (follow_short c.requires.track.track.setup.scale c.requires.track.last c.args.chunk.now.samples c.requires.joins.follow)

pub overflow_add-result : goal.overflow_add-result
overflow_add-result g c =
    let bytes : c.bytes_of.result ≡ length (stored_bytes c.args.chunk.now.samples) = c.bytes_of.ensures.exact ∙ ap (λ (ss : List Stored). length (stored_bytes ss)) c.as_slice-samples.ensures in
    omega (arith, bytes, end_fits c.self.invariant (bytes_short c.requires.track c.args.chunk.now c.requires.joins))

pub overflow_add-result-2 : goal.overflow_add-result-2
overflow_add-result-2 g c =
    let bytes : c.bytes_of.result ≡ length (stored_bytes c.args.chunk.now.samples) = c.bytes_of.ensures.exact ∙ ap (λ (ss : List Stored). length (stored_bytes ss)) c.as_slice-samples.ensures in
    omega (arith, bytes, c.movie_box_with-movie_box.ensures.bound, end_fits c.self.invariant (bytes_short c.requires.track c.args.chunk.now c.requires.joins))

pub count-requires : goal.count-requires
count-requires g c =
    let same : held_in c.deref.result.now ≡ c.args.self.now.tracks = ap held_in c.deref.ensures.value ∙ ap (λ (f : OpenFile). f.tracks) c.self.view_is in
    let long : length (held_in c.deref.result.now) ≡ length c.deref.result.now = length-map c.deref.result.now (λ (t : KeptTrack). t.held) in
    omega (arith, long, ap (λ (ts : List HeldTrack). length ts) same, slice_get_within c.args.self.now.tracks c.args.chunk.now.track c.requires.track c.requires.among)

pub returns-clause-whole : goal.returns-clause-whole
returns-clause-whole g c begun chunks s =
    let chunk = c.args.chunk.now in
    let same : held_in c.deref.result.now ≡ c.args.self.now.tracks = ap held_in c.deref.ensures.value ∙ ap (λ (f : OpenFile). f.tracks) c.self.view_is in
    let bytes : c.bytes_of.result ≡ length (stored_bytes chunk.samples) = c.bytes_of.ensures.exact ∙ ap (λ (ss : List Stored). length (stored_bytes ss)) c.as_slice-samples.ensures in
    let counted = stands_count chunk.track c.count.result s (slice_get_within c.args.self.now.tracks chunk.track c.requires.track c.requires.among)
    (subst (λ (ts : List HeldTrack). IfSome (slice_get ts chunk.track) (λ t. c.count.result ≡ count_of t)) same c.count.ensures.exact) in
    record {
      whole = omega (arith, bytes, c.movie_box_with-movie_box.ensures.exact, ap (λ (f : OpenFile). f.end) c.self.view_is, stands_length_with chunk s);
      box = c.movie_box_with-movie_box.ensures.exact ∙ ap (λ (b : List ℕ). length b) (stands_box_with chunk s);
      count = omega (arith, counted, ap (λ (ss : List Stored). length ss) c.as_slice-samples.ensures, count_more chunks chunk);
    }
