-- The setup of a track, and its sample entry, from what an input states.
use Rattle.std.specs.Prelude.{◌≡◌, ℕ, ◌==◌, if◌then◌else◌, List, Result, Ok, Err, ⊤}
use Rattle.std.specs.Result.{IsOk}
use Rattle.sf_tick.specs.declared.types.Kind.{Kind}
use Rattle.sf_tick.specs.declared.types.Kind.TheVariants as kinds
use Rattle.sf_tick.specs.declared.types.Setup.{Setup}
use Rattle.sf_avc.specs.ConfigBody.{made_config}
use Rattle.sf_entry.specs.declared.asc.Asc.{Asc}
use Rattle.sf_entry.specs.declared.track_setup.SetupFault.{SetupFault}
use Rattle.sf_entry.specs.declared.track_setup.SetupFault.TheVariants.{Avc, Aac, NoMemory}
use Rattle.sf_entry.specs.declared.track_setup.TrackSetup.{TrackSetup}
use Rattle.sf_entry.specs.Steps.{◌>>=◌, as_fault}
use Rattle.sf_entry.specs.Asc.{asc_of}
use Rattle.sf_entry.specs.Avc1.{avc1_entry}
use Rattle.sf_entry.specs.Mp4a.{mp4a_entry}

-- a number, and another where it is 0
abbrev pub default : ℕ → ℕ → ℕ
default n other = if n == 0 then other else n

-- a track of video with this body of its configuration box: its timescale is 90000 where the input states none
unfoldable pub video_track : Setup → List ℕ → TrackSetup
video_track setup config = record {
  kind = setup.kind;
  scale = default setup.scale 90000;
  width = setup.width;
  height = setup.height;
  entry = avc1_entry setup.width setup.height config;
}

-- a track of sound whose configuration says this: its timescale is the rate, and its channels are those of the
-- configuration, where the input states none
unfoldable pub sound_track : Setup → Asc → TrackSetup
sound_track setup asc = record {
  kind = setup.kind;
  scale = default setup.scale asc.rate;
  width = setup.width;
  height = setup.height;
  entry = mp4a_entry (default setup.channels asc.channels) asc.rate setup.config;
}

-- the track of a setup by its kind, or the first refusal in its configuration
abbrev pub made_by : Kind → Setup → Result TrackSetup SetupFault
made_by kinds.Avc setup = as_fault Avc (made_config setup.config) >>= (λ config. Ok (video_track setup config))
made_by kinds.Aac setup = as_fault Aac (asc_of setup.config) >>= (λ asc. Ok (sound_track setup asc))

-- the track of a setup, or the first refusal
unfoldable pub made : Setup → Result TrackSetup SetupFault
made setup = made_by setup.kind setup

-- for sound, memory is wanted only where its configuration isn't refused
abbrev pub MayWant : Kind → Setup → Type 0
MayWant kinds.Avc setup = ⊤
MayWant kinds.Aac setup = IsOk (asc_of setup.config)

-- an answer is the track of a setup, or the first refusal, or want of memory
abbrev pub Makes : Setup → Result TrackSetup SetupFault → Type 0
Makes setup (Err NoMemory) = MayWant setup.kind setup
Makes setup answer = made setup ≡ answer
