-- What the whole input of a recording says: the setup of its track, its samples, and its first fault; and files that hold it.
use Rattle.std.specs.Prelude.{◌≡◌, ℕ, List, [], map, Option, Some, None, option_map, Result, Ok, Err}
use Rattle.sf_tick.specs.declared.types.Setup.{Setup}
use Rattle.sf_tick.specs.declared.types.Stored.{Stored}
use Rattle.sf_coded.specs.CodedFile.{coded}
use Rattle.sf_coded.specs.declared.types.CodedFault.{CodedFault}
use Rattle.sf_entry.specs.TrackSetup.{made}
use Rattle.sf_entry.specs.declared.track_setup.SetupFault.{SetupFault}
use Rattle.sf_entry.specs.declared.track_setup.TrackSetup.{TrackSetup}
use Rattle.sf_gather.specs.declared.given.Options.{Options}
use Rattle.sf_meaning.specs.Joined.{joined}
use Rattle.sf_meaning.specs.Rows.{held_as}
use Rattle.sf_record.specs.Input.{Taken, coded_fault, given_of, input_of, setup_fault}
use Rattle.sf_record.specs.declared.faults.TrackFault.{TrackFault}

-- What an input says: the setup of its track, none where its header or that setup is refused; the samples that are accepted, as they are stored; and its first fault, none for a whole input.
pub record Said : Type 0 where
  pub setup : Option TrackSetup
  pub samples : List Stored
  pub fault : Option TrackFault

-- an input without a setup, which is refused so
abbrev pub without_setup : Option TrackFault → Said
without_setup fault = record { setup = None; samples = []; fault = fault }

-- an input with a setup, and what it says after its header
abbrev pub behind_header : TrackSetup → Taken → Said
behind_header setup taken = record { setup = Some setup; samples = taken.samples; fault = taken.fault }

-- what the input of a track says of whose header this is made
abbrev pub said_unless : ℕ → Options → Result TrackSetup SetupFault → List ℕ → Said
said_unless track options (Ok setup) bytes = behind_header setup (input_of (given_of track setup options) bytes)
said_unless track options (Err fault) bytes = without_setup (Some (setup_fault fault))

-- what the input of a track says whose coded file has this header and end
abbrev pub said_by : ℕ → Options → Option Setup → Option CodedFault → List ℕ → Said
said_by track options None end bytes = without_setup (option_map coded_fault end)
said_by track options (Some setup) end bytes = said_unless track options (made setup) bytes

-- What the bytes of the input of a track say, whose samples are put into chunks so.
unfoldable pub said_in : ℕ → Options → List ℕ → Said
said_in track options bytes = said_by track options (coded bytes).setup (coded bytes).end bytes

-- how samples are put into chunks where nothing else is asked for: of at most a second, from the start 0 on
abbrev pub usual : Options
usual = record { start_us = 0; interleave_us = 1000000 }

-- An input is whole, and its samples are just those that files hold of a track, joined in their order.
pub record IsHeld (track : ℕ) (said : Said) (files : List (List ℕ)) : Type 0 where
  pub whole : said.fault ≡ None
  pub held : joined files track ≡ Some (map held_as said.samples)
