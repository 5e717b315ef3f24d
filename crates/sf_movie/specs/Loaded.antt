-- A movie that was loaded: what its bytes say, and what is told of it.
use Rattle.std.specs.Prelude.{ℕ, zero, suc, List, [], length, Option, Some, None, option_and_then}
use Rattle.std.specs.List.{slice_get}
use Rattle.sf_cursor.specs.Cursor.{numbers_in}
use Rattle.sf_entry.specs.declared.types.Entry.{Entry}
use Rattle.sf_entry.specs.declared.types.Entry.TheVariants.{Avc, Aac, Other}
use Rattle.sf_entry.specs.declared.types.EntryAt.{EntryAt}
use Rattle.sf_meaning.specs.declared.movie.PlainMovie.{PlainMovie}
use Rattle.sf_meaning.specs.declared.movie.PlainSample.{PlainSample}
use Rattle.sf_meaning.specs.declared.movie.PlainTrack.{PlainTrack}

-- A movie, and the sample entries of each of its tracks.
pub record Loaded : Type 0 where
  pub movie : PlainMovie
  pub entries : List (List EntryAt)

abbrev pub count_of : Option PlainTrack → ℕ
count_of None = 0
count_of (Some track) = length track.samples

-- how many samples track t has, and none where there is no such track
abbrev pub sample_count : PlainMovie → ℕ → ℕ
sample_count m t = count_of (slice_get m.tracks t)

-- sample i of track t
abbrev pub sample_of : PlainMovie → ℕ → ℕ → Option PlainSample
sample_of m t i = option_and_then (λ track. slice_get track.samples i) (slice_get m.tracks t)

-- the numbers of the sync samples of a track, from 0, where there is one
abbrev pub sync_samples_of : Option PlainTrack → List ℕ
sync_samples_of None = []
sync_samples_of (Some track) = numbers_in 0 track.samples

-- those of track t
abbrev pub sync_samples : PlainMovie → ℕ → List ℕ
sync_samples m t = sync_samples_of (slice_get m.tracks t)

-- how many bytes the length of a NAL unit has (14496-15, 5.3.3.1), by an entry of AVC
abbrev pub width_of : Entry → Option ℕ
width_of (Avc config) = Some config.width
width_of (Aac config) = None
width_of (Other kind) = None

-- the entry of a number, which counts from 1
abbrev pub entry_of : List EntryAt → ℕ → Option EntryAt
entry_of es zero = None
entry_of es (suc i) = slice_get es i

-- the width by entry d of track t, where there is such an entry
abbrev pub unit_width : Loaded → ℕ → ℕ → Option ℕ
unit_width m t d = option_and_then (λ es. option_and_then (λ e. width_of e.entry) (entry_of es d)) (slice_get m.entries t)
