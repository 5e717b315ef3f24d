-- What the file of chunks of several tracks means: its movie, its sample entries, and the samples of each chunk of a track.
use Rattle.std.specs.Prelude.{◌≡◌, ℕ, ◌+◌, ◌==◌, if◌then◌else◌, List, [], ◌∷◌, length, map, Ok}
use Rattle.sf_tick.specs.declared.types.Kind.{Kind}
use Rattle.sf_tick.specs.declared.types.Kind.TheVariants as kinds
use Rattle.sf_tick.specs.declared.types.Stored.{Stored}
use Rattle.sf_tick.specs.declared.types.Chunk.{Chunk}
use Rattle.sf_entry.specs.Stsd.{entries_of, stsd_of}
use Rattle.sf_entry.specs.declared.track_setup.TrackSetup.{TrackSetup}
use Rattle.sf_entry.specs.declared.types.EntryAt.{EntryAt}
use Rattle.sf_meaning.specs.Groups.{Group}
use Rattle.sf_meaning.specs.Written.{listed, held_since}
use Rattle.sf_meaning.specs.declared.movie.TrackKind.{TrackKind}
use Rattle.sf_meaning.specs.declared.movie.TrackKind.TheVariants.{Avc, Aac}
use Rattle.sf_meaning.specs.declared.movie.PlainTrack.{PlainTrack}
use Rattle.sf_meaning.specs.declared.movie.PlainMovie.{PlainMovie}
use Rattle.sf_layout.specs.Layout.{stored_bytes, track_samples, track_rows, first_us, tracks_of, start_of, lead_of}

-- what the samples of a track are
abbrev pub kind_as : Kind → TrackKind
kind_as kinds.Avc = Avc
kind_as kinds.Aac = Aac

-- when the first of samples is decoded, in ticks; 0 without samples
abbrev pub first_tick : List Stored → ℕ
first_tick [] = 0
first_tick (s ∷ ss) = s.decode

-- the tick from which a track of the file counts: that of its first sample
abbrev pub base_of : ℕ → List Chunk → ℕ
base_of number chunks = first_tick (track_samples number chunks)

-- the file's start
abbrev pub start_in : List TrackSetup → List Chunk → ℕ
start_in setups chunks = start_of (tracks_of setups chunks)

-- the track of a number, in a file with this start
abbrev pub written_track : ℕ → ℕ → TrackSetup → List Chunk → PlainTrack
written_track start_us number setup chunks = record {
  kind = kind_as setup.kind;
  scale = setup.scale;
  lead = lead_of start_us (first_us (track_samples number chunks));
  media_time = 0;
  samples = listed (base_of number chunks) (track_rows number 40 chunks);
}

-- the tracks, numbered from here on
abbrev pub written_tracks : ℕ → ℕ → List TrackSetup → List Chunk → List PlainTrack
written_tracks start_us number [] chunks = []
written_tracks start_us number (setup ∷ setups) chunks = written_track start_us number setup chunks ∷ written_tracks start_us (number + 1) setups chunks

-- The movie of the file of these chunks.
abbrev pub written_movie : List TrackSetup → List Chunk → PlainMovie
written_movie setups chunks = record {
  scale = 1000000;
  start_us = start_in setups chunks;
  tracks = written_tracks (start_in setups chunks) 0 setups chunks;
}

-- each track has the sample entries that the entry of its setup says, alone in a sample description box at some place (8.5.2)
abbrev pub HaveEntries : List TrackSetup → List (List EntryAt) → Type 0
HaveEntries [] [] = Unit {0}
HaveEntries [] (es ∷ entries) = ⊥
HaveEntries (setup ∷ setups) [] = ⊥
HaveEntries (setup ∷ setups) (es ∷ entries) = ((at : ℕ) × (entries_of at (stsd_of setup.entry) ≡ Ok es)) × HaveEntries setups entries

-- the samples of each chunk of a track, with ticks from a base, among chunks of several tracks that stand one after the other from a place on
abbrev pub track_groups : ℕ → ℕ → ℕ → List Chunk → List Group
track_groups base number place [] = []
track_groups base number place (c ∷ cs) =
    if c.track == number then record { place = place; samples = map (held_since base) c.samples } ∷ track_groups base number (place + length (stored_bytes c.samples)) cs
    else track_groups base number (place + length (stored_bytes c.samples)) cs
