-- What holds of a movie that is accepted.
use Rattle.std.specs.Prelude.{ℕ, ◌+◌, ◌*◌, ◌^◌, ◌≤◌, length}
use Rattle.std.specs.List.{AllByRecursion}
use Rattle.sf_meaning.specs.declared.movie.PlainSample.{PlainSample}
use Rattle.sf_meaning.specs.declared.movie.PlainTrack.{PlainTrack}

-- A sample of a track with a timescale is decoded within 2^40 seconds, a file of so many bytes holds it, it isn't too long, and
-- its description counts from 1.
pub record IsHeld (bytes scale : ℕ) (s : PlainSample) : Type 0 where
  pub decode : s.decode ≤ 2 ^ 40 * scale
  pub place : s.place + s.size ≤ bytes
  pub size : s.size ≤ 67108864
  pub description : 1 ≤ s.description

-- A track has ticks, begins within 2^40 seconds, in ticks of its movie and of its own, and has not too many samples.
pub record IsAccepted (bytes movie_scale : ℕ) (t : PlainTrack) : Type 0 where
  pub scale : 1 ≤ t.scale
  pub lead : t.lead ≤ 2 ^ 40 * movie_scale
  pub media_time : t.media_time ≤ 2 ^ 40 * t.scale
  pub count : length t.samples ≤ 16777216
  pub samples : AllByRecursion (IsHeld bytes t.scale) t.samples
