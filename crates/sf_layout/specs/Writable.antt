-- Chunks of several tracks of which a file is read back.
use Rattle.std.specs.Prelude.{◌≡◌, ℕ, ◌+◌, ◌^◌, ◌<◌, ◌≤◌, List, [], ◌∷◌, length, Ok}
use Rattle.std.specs.List.{AllByRecursion}
use Rattle.sf_tick.specs.Tick.{tick}
use Rattle.sf_tick.specs.declared.types.Stored.{Stored}
use Rattle.sf_tick.specs.declared.types.Chunk.{Chunk}
use Rattle.sf_entry.specs.declared.track_setup.TrackSetup.{TrackSetup}
use Rattle.sf_entry.specs.declared.types.EntryAt.{EntryAt}
use Rattle.sf_entry.specs.Stsd.{entries_of, stsd_of}
use Rattle.sf_meaning.specs.Tracks.{kind_of}
pub use Rattle.sf_meaning.specs.Writable.{IsWritable}
use Rattle.sf_layout.specs.Layout.{track_samples, tracks_of, movie_box}
use Rattle.sf_layout.specs.Written.{kind_as}

-- The sample entry of a setup is read back, alone in a sample description box, as one of the setup's kind (8.5.2).
pub record IsReadBack (setup : TrackSetup) : Type 0 where
  pub read : (base : ℕ) → (e : EntryAt) × (entries_of base (stsd_of setup.entry) ≡ Ok (e ∷ [])) × (kind_of e.entry ≡ kind_as setup.kind)

-- A sample at so many ticks a second: it is decoded in the first 2^48 microseconds, at the nearest tick.
pub record IsTimed (scale : ℕ) (s : Stored) : Type 0 where
  pub early : s.dts_us ≤ 2 ^ 48
  pub decode : s.decode ≡ tick s.dts_us scale

-- Decode times don't fall, and each is less than 2^32 ticks after the one before.
abbrev pub Rises : Stored → List Stored → Type 0
Rises s [] = Unit {0}
Rises s (t ∷ ts) = (s.dts_us ≤ t.dts_us) × (t.decode < s.decode + 2 ^ 32) × Rises t ts

abbrev pub AllRise : List Stored → Type 0
AllRise [] = Unit {0}
AllRise (s ∷ ss) = Rises s ss

-- Samples of one track that a file holds and that are read back, by the setup of the track.
pub record WritableTrack (setup : TrackSetup) (samples : List Stored) : Type 0 where
  pub scale_some : 1 ≤ setup.scale
  pub scale_fits : setup.scale < 2 ^ 32
  pub entry : IsReadBack setup
  pub each : AllByRecursion IsWritable samples
  pub timed : AllByRecursion (IsTimed setup.scale) samples
  pub rise : AllRise samples
  pub few : length samples ≤ 16777216

-- so is each track, numbered from here on
abbrev pub AllWritable : ℕ → List TrackSetup → List Chunk → Type 0
AllWritable number [] chunks = Unit {0}
AllWritable number (setup ∷ setups) chunks = WritableTrack setup (track_samples number chunks) × AllWritable (number + 1) setups chunks

-- Chunks of several tracks that a file holds and that are read back: there are at most 64 tracks, each chunk is of one of them, none of the chunks is empty, and the movie box doesn't pass what is read.
pub record Writable (setups : List TrackSetup) (chunks : List Chunk) : Type 0 where
  pub tracks : length setups ≤ 64
  pub known : AllByRecursion (λ c. c.track < length setups) chunks
  pub filled : AllByRecursion (λ c. 0 < length c.samples) chunks
  pub each : AllWritable 0 setups chunks
  pub moov : length (movie_box (tracks_of setups chunks)) ≤ 2 ^ 28
