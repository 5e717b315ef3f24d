-- Where a seek leads: to a sync sample (ISO/IEC 14496-12, 8.6.2) of each selected track, found among all samples.
use Rattle.std.specs.Prelude.{ℕ, ◌+◌, ℤ, ◌-ℤ◌, unsigned_abs, int_le, int_lt, nat_lt, ◌==◌, ◌&&◌, ◌||◌, Bool, List, [], ◌∷◌, Option, Some, None, option_map, if◌then◌else◌}
use Rattle.std.specs.List.{filter, slice_get}
use Rattle.sf_meaning.specs.Shown.{shown_us}
use Rattle.sf_meaning.specs.declared.movie.PlainMovie.{PlainMovie}
use Rattle.sf_meaning.specs.declared.movie.PlainSample.{PlainSample}
use Rattle.sf_meaning.specs.declared.movie.PlainTrack.{PlainTrack}
use Rattle.sf_movie.specs.Loaded.{sample_count}
use Rattle.sf_extract.specs.Current.{Extracting, Positions, moved_to}
use Rattle.sf_extract.specs.declared.types.Mode.{Mode}
use Rattle.sf_extract.specs.declared.types.Sync.{Sync}
use Rattle.sf_extract.specs.declared.types.Mode.TheVariants.{Previous, Next, Closest}

-- the sync samples among samples of a track that are numbered from one on
unfoldable pub syncs_in : PlainMovie → PlainTrack → ℕ → List PlainSample → List Sync
syncs_in m track i [] = []
syncs_in m track i (s ∷ ss) =
    if s.sync then record { sample = i; shown_us = shown_us m track s } ∷ syncs_in m track (i + 1) ss else syncs_in m track (i + 1) ss

-- the sync samples of a track where there is one
abbrev pub syncs_of : PlainMovie → Option PlainTrack → List Sync
syncs_of m None = []
syncs_of m (Some track) = syncs_in m track 0 track.samples

-- a sync sample, or another one that is better
abbrev pub better_of : (Sync → Sync → Bool) → Sync → Option Sync → Option Sync
better_of is_better s None = Some s
better_of is_better s (Some other) = if is_better other s then Some other else Some s

-- of sync samples the first one than which no other is better
unfoldable pub best : (Sync → Sync → Bool) → List Sync → Option Sync
best is_better [] = None
best is_better (s ∷ ss) = better_of is_better s (best is_better ss)

-- one is shown before the other
abbrev pub is_earlier : Sync → Sync → Bool
is_earlier s other = int_lt s.shown_us other.shown_us

-- how far from a time a sync sample is shown, in microseconds
abbrev pub distance : ℤ → Sync → ℕ
distance us s = unsigned_abs (s.shown_us -ℤ us)

-- one is shown nearer to a time than the other, or as near and before it
abbrev pub is_nearer : ℤ → Sync → Sync → Bool
is_nearer us s other = nat_lt (distance us s) (distance us other) || (distance us s == distance us other && is_earlier s other)

-- the earliest sync sample
abbrev pub earliest : List Sync → Option Sync
earliest ss = best is_earlier ss

-- the latest sync sample that isn't shown after a time
abbrev pub latest_until : ℤ → List Sync → Option Sync
latest_until us ss = best (λ s other. is_earlier other s) (filter (λ s. int_le s.shown_us us) ss)

-- the earliest sync sample that isn't shown before a time
abbrev pub earliest_from : ℤ → List Sync → Option Sync
earliest_from us ss = earliest (filter (λ s. int_le us s.shown_us) ss)

-- the first of two that is there
abbrev pub or_else : Option Sync → Option Sync → Option Sync
or_else None other = other
or_else (Some s) other = Some s

-- the sync sample to which a seek leads. Of those that are shown at once it's the one with the lowest number.
unfoldable pub sought : ℤ → Mode → List Sync → Option Sync
sought us Previous ss = or_else (latest_until us ss) (earliest ss)
sought us Next ss = earliest_from us ss
sought us Closest ss = best (is_nearer us) ss

-- the number of a sync sample, or else the end
abbrev pub number_or : ℕ → Option Sync → ℕ
number_or end None = end
number_or end (Some s) = s.sample

-- The position of track t after a seek: of its sync samples, by Previous the latest one until a time, or else the earliest one; by
-- Next the earliest one from it on; by Closest the nearest one, the earlier one where two are as near. Without such a sample it's the end.
unfoldable pub sync_at : PlainMovie → ℕ → ℤ → Mode → ℕ
sync_at m t us mode = number_or (sample_count m t) (sought us mode (syncs_of m (slice_get m.tracks t)))

-- the positions after a seek, of the tracks from one on
unfoldable pub all_sought : PlainMovie → ℤ → Mode → ℕ → Positions → Positions
all_sought m us mode t [] = []
all_sought m us mode t (p ∷ ps) = option_map (λ i. sync_at m t us mode) p ∷ all_sought m us mode (t + 1) ps

-- An extractor after a seek, which moves each selected track.
abbrev pub seeked : Extracting → ℤ → Mode → Extracting
seeked e us mode = moved_to e (all_sought e.loaded.movie us mode 0 e.positions)
