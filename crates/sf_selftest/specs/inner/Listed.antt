-- What is told of a track, sample by sample.
use Rattle.std.specs.Prelude.{ℕ, ◌+◌, cond, List, [], map, Option, Some, None}
use Rattle.std.specs.List.{fold, range_with_len, slice_get}
use Rattle.sf_meaning.specs.declared.movie.PlainMovie.{PlainMovie}
use Rattle.sf_meaning.specs.declared.movie.PlainSample.{PlainSample}
use Rattle.sf_meaning.specs.declared.movie.PlainTrack.{PlainTrack}
use Rattle.sf_selftest.specs.declared.summary.TrackSummary.{TrackSummary}

abbrev pub samples_in : Option PlainTrack → List PlainSample
samples_in None = []
samples_in (Some track) = track.samples

-- the samples of track t, and none where there is no such track
abbrev pub samples_at : PlainMovie → ℕ → List PlainSample
samples_at m t = samples_in (slice_get m.tracks t)

-- what is told where there is no sample
abbrev pub no_samples : TrackSummary
no_samples = record { samples = 0; syncs = 0; stored = 0; last = 0 }

-- what is told with one more sample
abbrev pub with_sample : TrackSummary → PlainSample → TrackSummary
with_sample t s = record { samples = t.samples + 1; syncs = t.syncs + cond s.sync 1 0; stored = t.stored + s.size; last = s.decode }

-- what is told with more samples
abbrev pub with_samples : TrackSummary → List PlainSample → TrackSummary
with_samples t ss = fold with_sample t ss

-- what is told of each of the first so many tracks of a movie
abbrev pub listed : PlainMovie → ℕ → List TrackSummary
listed m tracks = map (λ t. with_samples no_samples (samples_at m t)) (range_with_len 0 tracks)
