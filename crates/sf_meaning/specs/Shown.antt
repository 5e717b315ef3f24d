-- When samples are shown, by the edit list of their track.
use Rattle.std.specs.Prelude.{ℕ, ℤ, pos, ◌+ℤ◌, ◌-ℤ◌, Option, option_map, option_and_then}
use Rattle.std.specs.List.{slice_get}
use Rattle.sf_tick.specs.Tick.{us}
use Rattle.sf_meaning.specs.declared.movie.PlainSample.{PlainSample}
use Rattle.sf_meaning.specs.declared.movie.PlainTrack.{PlainTrack}
use Rattle.sf_meaning.specs.declared.movie.PlainMovie.{PlainMovie}

-- when a sample of a track is shown, in microseconds from the start of its file: after the lead, and earlier by the media
-- time with which the track begins; each time is rounded down by itself
abbrev pub shown_us : PlainMovie → PlainTrack → PlainSample → ℤ
shown_us m track s = (us s.compose track.scale +ℤ us (pos track.lead) m.scale) -ℤ us (pos track.media_time) track.scale

-- the same of sample i of track t, where there is one
unfoldable pub shown : PlainMovie → ℕ → ℕ → Option ℤ
shown m t i = option_and_then (λ track. option_map (shown_us m track) (slice_get track.samples i)) (slice_get m.tracks t)
