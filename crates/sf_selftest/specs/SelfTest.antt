-- The program's test of itself: inputs that are generated are recorded into a file in memory, and all of its samples are read back.
use Rattle.std.specs.Prelude.{◌≡◌, ℕ, List, [], ◌∷◌, ◌++◌, length, map, codes, slice_get, sum_by, Some, None, Ok}
use Rattle.std.specs.List.{count_by, range_with_len}
use Rattle.sf_meaning.specs.Joined.{Held}
use Rattle.sf_meaning.specs.Rows.{held_as}
use Rattle.sf_make.specs.Generator.{generated_inputs}
use Rattle.sf_extract.specs.Readout.{Readout, readout}
use Rattle.sf_extract.specs.declared.plan.Command.{Command}
use Rattle.sf_extract.specs.declared.plan.Command.TheVariants.{Select, ToEnd}
use Rattle.sf_reader.specs.Dumps.{told_length}
use Rattle.sf_series.specs.declared.limits.Limits.{Limits}
use Rattle.sf_record.specs.Called.{all_said}
use Rattle.sf_record.specs.Said.{IsHeld, said_in, usual}
use Rattle.sf_selftest.specs.declared.summary.Summary.{Summary}
use Rattle.sf_selftest.specs.declared.summary.TrackSummary.{TrackSummary}

-- no limits: one file, of whatever length
abbrev pub no_limits : Limits
no_limits = record { max_bytes = 0; max_duration_us = 0; max_files = 1; stem = codes "make" }

-- the plan that selects each of so many tracks, and reads to the end
abbrev pub whole_plan : ℕ → List Command
whole_plan tracks = map Select (range_with_len 0 tracks) ++ ToEnd ∷ []

-- when the last of samples is decoded, in ticks, and this where there is none
abbrev pub last_decode : ℕ → List Held → ℕ
last_decode none [] = none
last_decode none (s ∷ ss) = last_decode s.decode ss

-- what is told of a track with these samples: how many they are, how many of them are sync samples, how many bytes they have together, and when the last one is decoded, in ticks
abbrev pub summary_of : List Held → TrackSummary
summary_of ss = record { samples = length ss; syncs = count_by (λ s. s.sync) ss; stored = sum_by (λ s. length s.bytes) ss; last = last_decode 0 ss }

-- the samples that the generated inputs hold, as a file is to hold them, each input as its track
abbrev pub generated_tracks : ℕ → ℕ → List (List Held)
generated_tracks count tracks = map (λ said. map held_as said.samples) (all_said 0 usual (generated_inputs count tracks))

-- A file holds just the samples of the generated inputs, each as its track.
abbrev pub HoldsGenerated : ℕ → ℕ → List ℕ → Type 0
HoldsGenerated count tracks file =
    (track : ℕ) (bytes : List ℕ) → slice_get (generated_inputs count tracks) track ≡ Some bytes → IsHeld track (said_in track usual bytes) (file ∷ [])

-- The generated inputs, of so many samples of each of so many tracks, were recorded into a file, whose samples were all read out to the end. This is told of its tracks, and how long the dump is, in bytes.
pub record IsTested (count tracks : ℕ) (summary : Summary) : Type 0 where
  pub file : List ℕ
  pub holds : HoldsGenerated count tracks file
  pub read : Readout
  pub is : readout file (whole_plan tracks) ≡ Ok read
  pub whole : read.refused ≡ None
  pub dump : summary.dump ≡ told_length read.dump
  pub tracks_are : summary.tracks ≡ map summary_of (generated_tracks count tracks)
