-- What is told of a track of a movie, by its number.
use Rattle.std.proofs.Common.{◌≡◌, ℕ, ℤ, pos, ◌+◌, ◌<◌, true, false, List, ◌∷◌, length, take, drop, Some, option_map, option_and_then, sym, ap, ◌∙◌}
use Rattle.std.specs.Fmt.{decimal, signed_decimal}
use Rattle.std.specs.List.{slice_get}
use Rattle.std.proofs.lemmas.List.{drop_more}
use Rattle.std.proofs.lemmas.List.Sums.{count_by_more_no, count_by_more_yes}
use Rattle.std.proofs.lemmas.Option.{get_or_from_slice_get, slice_get-get_or, slice_get_within}
use Rattle.sf_meaning.specs.declared.movie.PlainMovie.{PlainMovie}
use Rattle.sf_meaning.specs.declared.movie.PlainSample.{PlainSample}
use Rattle.sf_meaning.specs.declared.movie.PlainTrack.{PlainTrack}
use Rattle.sf_movie.specs.Loaded.{count_of, sample_count, sample_of}
use Rattle.sf_tick.specs.Tick.{us}
use Rattle.sf_app.specs.ListText.{lead_us, sync_count}
use Rattle.sf_app.specs.inner.Listing.{no_track, track_at}

pub there : (m : PlainMovie) (t : ℕ) → t < length m.tracks → slice_get m.tracks t ≡ Some (track_at m t)
there m t lt = slice_get-get_or m.tracks t no_track lt

some_is : {A : Type 0} (x y : A) → Some x ≡ Some y → x ≡ y
some_is x y e = cc e

-- what is told of the track by a function
pub told : {A : Type 0} (f : PlainTrack → A) (m : PlainMovie) (t : ℕ) (x : A) → t < length m.tracks → option_map f (slice_get m.tracks t) ≡ Some x → x ≡ f (track_at m t)
told f m t x lt e = sym (some_is (f (track_at m t)) x (ap (option_map f) (sym (there m t lt)) ∙ e))

pub count_told : (m : PlainMovie) (t n : ℕ) → t < length m.tracks → n ≡ sample_count m t → n ≡ length (track_at m t).samples
count_told m t n lt e = e ∙ ap count_of (there m t lt)

sample_at : (m : PlainMovie) (t i : ℕ) (s : PlainSample) → t < length m.tracks → sample_of m t i ≡ Some s → slice_get (track_at m t).samples i ≡ Some s
sample_at m t i s lt e = ap (option_and_then (λ (track : PlainTrack). slice_get track.samples i)) (sym (there m t lt)) ∙ e

pub sample_told : (m : PlainMovie) (t i : ℕ) (s : PlainSample) → t < length m.tracks → sample_of m t i ≡ Some s
    → drop i (track_at m t).samples ≡ s ∷ drop (i + 1) (track_at m t).samples
sample_told m t i s lt e =
    let xs : List PlainSample = (track_at m t).samples in
    let at : slice_get xs i ≡ Some s = sample_at m t i s lt e in
    drop_more xs i s (slice_get_within xs i s at) ∙ ap (λ (y : PlainSample). y ∷ drop (i + 1) xs) (get_or_from_slice_get xs i s s at)

-- one more that is sync, or isn't
pub sync_more : (m : PlainMovie) (t i : ℕ) (s : PlainSample) → t < length m.tracks → sample_of m t i ≡ Some s → s.sync ≡ true
    → sync_count (take (i + 1) (track_at m t).samples) ≡ sync_count (take i (track_at m t).samples) + 1
sync_more m t i s lt e is =
    let xs : List PlainSample = (track_at m t).samples in
    let at : slice_get xs i ≡ Some s = sample_at m t i s lt e in
    count_by_more_yes (λ (x : PlainSample). x.sync) xs i s (slice_get_within xs i s at) (ap (λ (x : PlainSample). x.sync) (get_or_from_slice_get xs i s s at) ∙ is)

pub sync_no_more : (m : PlainMovie) (t i : ℕ) (s : PlainSample) → t < length m.tracks → sample_of m t i ≡ Some s → s.sync ≡ false
    → sync_count (take (i + 1) (track_at m t).samples) ≡ sync_count (take i (track_at m t).samples)
sync_no_more m t i s lt e is =
    let xs : List PlainSample = (track_at m t).samples in
    let at : slice_get xs i ≡ Some s = sample_at m t i s lt e in
    count_by_more_no (λ (x : PlainSample). x.sync) xs i s (slice_get_within xs i s at) (ap (λ (x : PlainSample). x.sync) (get_or_from_slice_get xs i s s at) ∙ is)

-- a lead, as a number that may have a sign
pub lead_told : (scale lead : ℕ) (z : ℤ) → z ≡ us (pos lead) scale → signed_decimal z ≡ decimal (lead_us scale lead)
lead_told scale lead z e = ap signed_decimal e
