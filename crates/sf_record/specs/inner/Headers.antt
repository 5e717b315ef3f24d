-- Inputs whose headers are read.
use Rattle.std.specs.Prelude.{◌≡◌, ℕ, ◌+◌, ◌^◌, ◌≤◌, List, [], ◌∷◌, ◌++◌, length, Option, Some, None, IsSome}
use Rattle.sf_world.specs.Views.{SourceView, Unchanged}
use Rattle.sf_entry.specs.declared.track_setup.TrackSetup.{TrackSetup}
use Rattle.sf_file.specs.Holdable.{IsReadable}
use Rattle.sf_gather.specs.declared.given.Options.{Options}
use Rattle.sf_record.specs.Input.{given_of}
use Rattle.sf_record.specs.Pump.{Pumping, Stands}
use Rattle.sf_record.specs.Serial.{HasFault, Opens}
use Rattle.sf_record.specs.declared.headers.Untaken.{Untaken}
use Rattle.sf_record.specs.declared.headers.Untaken.TheVariants.{Fault, NoMemory}

-- The header of the input of a track is taken: its pump was made, of which nothing was taken yet, with this setup, which a file can hold.
pub record IsOpened (track : ℕ) (options : Options) (before : SourceView) (setup : TrackSetup) (pump : Pumping) : Type 0 where
  pub given : pump.given ≡ given_of track setup options
  pub readable : IsReadable setup
  pub short : length setup.entry ≤ 2 ^ 23
  pub opens : Opens track options before.content setup
  pub stands : Stands pump.coded.source.content [] [] pump
  pub free : pump.chunk ≡ None
  pub live : IsSome pump.gatherer
  pub fault : pump.fault ≡ None
  pub source : Unchanged before pump.coded.source

-- why the header of the input of a track isn't taken
abbrev pub IsUntaken : ℕ → Options → SourceView → SourceView → Untaken → Type 0
IsUntaken track options before after (Fault fault) = HasFault track options before after fault
IsUntaken track options before after NoMemory = Unit {0}

-- the headers of inputs are taken, of tracks that are numbered from here on
abbrev pub AllOpened : ℕ → Options → List SourceView → List TrackSetup → List Pumping → Type 0
AllOpened track options [] [] [] = Unit {0}
AllOpened track options (b ∷ before) (s ∷ setups) (p ∷ pumps) = IsOpened track options b s p × AllOpened (track + 1) options before setups pumps
AllOpened track options before setups pumps = ⊥

-- The headers of the first inputs are taken, the one of the next input isn't, and the inputs after it are left as they were.
pub record StopsAt (options : Options) (before : List SourceView) (setups : List TrackSetup) (pumps : List Pumping) (rest : List SourceView) (untaken : Untaken) : Type 0 where
  pub taken : List SourceView
  pub first : SourceView
  pub others : List SourceView
  pub parts : before ≡ taken ++ first ∷ others
  pub opened : AllOpened 0 options taken setups pumps
  pub after : SourceView
  pub left : rest ≡ after ∷ others
  pub why : IsUntaken (length taken) options first after untaken
  pub same : Unchanged first after

-- The headers of inputs are read, all of them or up to the first one that isn't taken.
abbrev pub HeadersRead : Options → List SourceView → List TrackSetup → List Pumping → List SourceView → Option Untaken → Type 0
HeadersRead options before setups pumps rest None = AllOpened 0 options before setups pumps × (rest ≡ [])
HeadersRead options before setups pumps rest (Some untaken) = StopsAt options before setups pumps rest untaken
