-- How the recording of several inputs ends, and what their files hold.
use Rattle.std.specs.Prelude.{◌≡◌, ℕ, ◌+◌, ◌<◌, ◌≤◌, ◌^◌, ◌⊎◌, nat_lt, false, List, [], ◌∷◌, ◌++◌, length, map, replicate, slice_get, Option, Some, None, IfSome, ⊤}
use Rattle.std.specs.List.{filter}
use Rattle.sf_tick.specs.declared.types.Chunk.{Chunk}
use Rattle.sf_tick.specs.declared.types.Stored.{Stored}
use Rattle.sf_world.specs.Counts.{Rose}
use Rattle.sf_world.specs.Views.{KeptAtMost, ShelfView, SourceView, Unchanged}
use Rattle.sf_coded.specs.declared.types.CodedFault.TheVariants.{ReadFault as CodedReadFault}
use Rattle.sf_entry.specs.declared.track_setup.TrackSetup.{TrackSetup}
use Rattle.sf_gather.specs.declared.given.Options.{Options}
use Rattle.sf_gather.specs.Chunks.{chunks}
use Rattle.sf_interleave.specs.Waiting.{list_of}
use Rattle.sf_series.specs.declared.limits.Limits.{Limits}
use Rattle.sf_series.specs.declared.limits.LimitShown.{LimitShown}
use Rattle.sf_series.specs.declared.report.Report.{Report}
use Rattle.sf_series.specs.Ending.{Reports}
use Rattle.sf_series.specs.Files.{chunks_of_track, flat}
use Rattle.sf_series.specs.Names.{file_name, names_to}
use Rattle.sf_series.specs.Order.{in_order}
use Rattle.sf_series.specs.ReadBack.{Begin, ReadToFault, ReadToLimit, WholeReadBack}
use Rattle.sf_series.specs.Series.{IsNothing, OpenSeries}
use Rattle.sf_series.specs.Shelved.{AllKept, with_files}
use Rattle.sf_series.specs.Switching.{closed_length, passes, switched}
use Rattle.sf_record.specs.declared.faults.InputFault.{InputFault}
use Rattle.sf_record.specs.declared.faults.InputFault.TheVariants.{Coded, Setup as SetupRefused, Sample as SampleRefused}
use Rattle.sf_record.specs.declared.faults.TrackFault.{TrackFault}
use Rattle.sf_record.specs.declared.serial_end.SerialOutcome.{SerialOutcome}
use Rattle.sf_record.specs.declared.serial_end.SerialOutcome.TheVariants.{Done, WriteFault, Limit, Refused, ReadFault, NoMemory}
use Rattle.sf_record.specs.Input.{IsOfBytes, given_of, input_of, read_fault}
use Rattle.sf_record.specs.Said.{Said, behind_header, said_in, without_setup}

-- Options and limits within their ranges.
pub record AreOptions (options : Options) : Type 0 where
  pub start : options.start_us ≤ 2 ^ 48
  pub interleave : options.interleave_us ≤ 2 ^ 48

-- the answer for a fault of the input of a number: a failed read is told as such
abbrev pub answer_by : InputFault → ℕ → TrackFault → SerialOutcome
answer_by (Coded CodedReadFault) number fault = ReadFault number
answer_by (Coded other) number fault = Refused number fault
answer_by (SetupRefused other) number fault = Refused number fault
answer_by (SampleRefused other) number fault = Refused number fault

abbrev pub answer_at : ℕ → TrackFault → SerialOutcome
answer_at number fault = answer_by fault.why number fault

-- the answer for the lowest fault of inputs, numbered from here on; Done where there is none
abbrev pub lowest_fault : ℕ → List (Option TrackFault) → SerialOutcome
lowest_fault number [] = Done
lowest_fault number (None ∷ faults) = lowest_fault (number + 1) faults
lowest_fault number (Some fault ∷ faults) = answer_at number fault

-- the input of a track says this, where its bytes are told
abbrev pub SaysIn : ℕ → Options → Option (List ℕ) → Said → Type 0
SaysIn track options None said = ⊤
SaysIn track options (Some bytes) said = said ≡ said_in track options bytes

-- the input of a track has a header of which this setup is made, where its bytes are told
abbrev pub Opens : ℕ → Options → Option (List ℕ) → TrackSetup → Type 0
Opens track options None setup = ⊤
Opens track options (Some bytes) setup = said_in track options bytes ≡ behind_header setup (input_of (given_of track setup options) bytes)

-- The first samples of what an input says were read, and then its source failed.
pub record FirstOf (said read : Said) : Type 0 where
  pub setup : read.setup ≡ said.setup
  pub fault : read.fault ≡ Some read_fault
  pub rest : List Stored
  pub samples : said.samples ≡ read.samples ++ rest

-- What was read of the input of a track: all that it says, or, where its source failed in this call, its first samples. The fault after them is the input's own, unless the source failed.
pub record WasRead (track : ℕ) (options : Options) (before after : SourceView) (read : Said) : Type 0 where
  pub said : Said
  pub says : SaysIn track options before.content said
  pub read_so : (read ≡ said) ⊎ FirstOf said read
  pub failed : read.fault ≡ Some read_fault → Rose before.faults after.faults
  pub own : IfSome read.fault (λ f. (f ≡ read_fault) ⊎ IsOfBytes f.why)

-- so was each of several inputs, of tracks that are numbered from here on
abbrev pub AllRead : ℕ → Options → List SourceView → List SourceView → List Said → Type 0
AllRead track options [] [] [] = Unit {0}
AllRead track options (b ∷ before) (a ∷ after) (r ∷ reads) = WasRead track options b a r × AllRead (track + 1) options before after reads
AllRead track options before after reads = ⊥

-- the chunks that aren't empty
abbrev pub filled : List Chunk → List Chunk
filled chunks = filter (λ c. nat_lt 0 (length c.samples)) chunks

-- the chunks with samples of what was read, by the setups of tracks that are numbered from here on
abbrev pub lists_of : ℕ → Options → List TrackSetup → List Said → List (List Chunk)
lists_of track options [] reads = []
lists_of track options (setup ∷ setups) [] = []
lists_of track options (setup ∷ setups) (read ∷ reads) = filled (chunks (given_of track setup options) read.samples) ∷ lists_of (track + 1) options setups reads

-- sources come back in their order, each as it was but for its count of faults
abbrev pub ComeBack : List SourceView → List SourceView → Type 0
ComeBack [] [] = Unit {0}
ComeBack (b ∷ before) (a ∷ after) = Unchanged b a × ComeBack before after
ComeBack before after = ⊥

-- Some files were made on a shelf, by the names of a series, and each is kept.
pub record KeepsMade (stem : List ℕ) (before after : ShelfView) : Type 0 where
  pub files : List (List ℕ)
  pub named : after.names ≡ before.names ++ names_to stem (length files)
  pub kept : after.files ≡ with_files before.files files

-- What a recording is given: how samples are put into chunks, the limits, and what its sources and its shelf show.
pub record Asked : Type 0 where
  pub options : Options
  pub limits : Limits
  pub sources : List SourceView
  pub shelf : ShelfView

-- What a recording gives: what its sources and its shelf show, and the report.
pub record Gave : Type 0 where
  pub sources : List SourceView
  pub shelf : ShelfView
  pub report : Report

-- what a recording is given, and what it gives, as one
abbrev pub asked_for : Options → Limits → List SourceView → ShelfView → Asked
asked_for options limits sources shelf = record { options = options; limits = limits; sources = sources; shelf = shelf }

abbrev pub gave : List SourceView → ShelfView → Report → Gave
gave sources shelf report = record { sources = sources; shelf = shelf; report = report }

-- why the header of the input of a track isn't taken: it is refused so, or its source failed
abbrev pub HasFault : ℕ → Options → SourceView → SourceView → TrackFault → Type 0
HasFault track options before after fault = WasRead track options before after (without_setup (Some fault)) ⊎ ((fault ≡ read_fault) × Rose before.faults after.faults)

-- A report tells of no file, and of no sample of each input.
pub record TellsNone (asked : Asked) (report : Report) : Type 0 where
  pub files : report.files ≡ []
  pub tracks : report.tracks ≡ replicate (length asked.sources) 0

-- The header or the setup of the input of a track has this fault, those of the inputs below it have none, and no file was made.
pub record EndsAtHeader (asked : Asked) (given : Gave) (track : ℕ) (fault : TrackFault) : Type 0 where
  pub below : (number : ℕ) (source : SourceView) → number < track → slice_get asked.sources number ≡ Some source → (setup : TrackSetup) × Opens number asked.options source.content setup
  pub before : SourceView
  pub there : slice_get asked.sources track ≡ Some before
  pub after : SourceView
  pub back : slice_get given.sources track ≡ Some after
  pub read : HasFault track asked.options before after fault
  pub nothing : given.shelf ≡ asked.shelf
  pub none : TellsNone asked given.report

-- An empty file is within the limit of bytes, and the files that a shelf gained follow from chunks of lists by the switching rule, the earliest chunk first, then the one of the lowest track, up to this limit, if any: they were closed and kept by the names of a series, and the report tells their lengths and the samples of each track in them.
pub record FollowOrder (asked : Asked) (given : Gave) (setups : List TrackSetup) (lists : List (List Chunk)) (limit : Option LimitShown) : Type 0 where
  pub under : passes asked.limits.max_bytes (closed_length setups []) ≡ false
  pub files : List (List Chunk)
  pub order : switched asked.limits setups (in_order lists) ≡ record { files = files; limit = limit }
  pub kept : AllKept asked.shelf asked.limits.stem setups files given.shelf
  pub reports : Reports setups files files given.report

-- The files that a shelf gained before a fault follow from chunks by the switching rule. Of each track these chunks are the first of its list, and of some first chunks of each list they are the first in order: the earliest chunk first, then the one of the lowest track. All of the files, or all but the last one, were closed and kept by the names of a series. At most one more was made after those, and is kept as far as it was written. The report tells the lengths of the closed ones, and the samples of each track that were written.
pub record FollowToFault (asked : Asked) (given : Gave) (setups : List TrackSetup) (lists : List (List Chunk)) : Type 0 where
  pub closed : List (List Chunk)
  pub last : List (List Chunk)
  pub few : length last ≤ 1
  pub order : switched asked.limits setups (flat (closed ++ last)) ≡ record { files = closed ++ last; limit = None }
  pub first : (track : ℕ) → (rest : List Chunk) × (list_of lists track ≡ chunks_of_track track (closed ++ last) ++ rest)
  pub handed : List (List Chunk)
  pub begin : Begin handed lists
  pub earliest : (rest : List Chunk) × (in_order handed ≡ flat (closed ++ last) ++ rest)
  pub before : ShelfView
  pub kept : AllKept asked.shelf asked.limits.stem setups closed before
  pub made : KeptAtMost (file_name asked.limits.stem (length closed + 1)) before given.shelf
  pub reports : Reports setups (closed ++ last) closed given.report

-- Each input was read to its end or to its fault, and the samples before it stand in the files, all of them, where the shelf tells its files. The report tells how many they are.
pub record RecordsAll (asked : Asked) (given : Gave) (setups : List TrackSetup) (reads : List Said) : Type 0 where
  pub read : AllRead 0 asked.options asked.sources given.sources reads
  pub taken : map (λ r. r.setup) reads ≡ map Some setups
  pub series : OpenSeries
  pub own : (series.files.setups ≡ setups) × (series.files.limits ≡ asked.limits)
  pub back : (before : List (List ℕ)) → asked.shelf.files ≡ Some before
      → WholeReadBack asked.shelf before series (lists_of 0 asked.options setups reads) (lists_of 0 asked.options setups reads) given.report given.shelf
  pub follow : FollowOrder asked given setups (lists_of 0 asked.options setups reads) None
  pub told : given.report.tracks ≡ map (λ r. length r.samples) reads

-- What was read of each input, whose headers are taken, and the series of files that it went into, which has their setups and the limits that were asked for.
pub record ReadInto (asked : Asked) (given : Gave) : Type 0 where
  pub setups : List TrackSetup
  pub reads : List Said
  pub read : AllRead 0 asked.options asked.sources given.sources reads
  pub taken : map (λ r. r.setup) reads ≡ map Some setups
  pub series : OpenSeries
  pub own : (series.files.setups ≡ setups) × (series.files.limits ≡ asked.limits)

-- A chunk of what was read meets this limit, and those before it in its track stand in the files.
pub record RecordsToLimit (asked : Asked) (given : Gave) (shown : LimitShown) : Type 0 where
  pub inputs : ReadInto asked given
  pub back : (before : List (List ℕ)) → asked.shelf.files ≡ Some before
      → ReadToLimit asked.shelf before inputs.series (lists_of 0 asked.options inputs.setups inputs.reads) shown given.report given.shelf
  pub follow : FollowOrder asked given inputs.setups (lists_of 0 asked.options inputs.setups inputs.reads) (Some shown)

-- Not even an empty file of these setups is within the limit of bytes, and none was made.
pub record FitsNothing (asked : Asked) (given : Gave) (shown : LimitShown) : Type 0 where
  pub setups : List TrackSetup
  pub opens : (number : ℕ) (source : SourceView) (setup : TrackSetup) → slice_get asked.sources number ≡ Some source → slice_get setups number ≡ Some setup → Opens number asked.options source.content setup
  pub one_each : length setups ≡ length asked.sources
  pub passed : IsNothing asked.limits setups shown
  pub nothing : given.shelf ≡ asked.shelf
  pub none : TellsNone asked given.report

-- Memory ran out before anything was read: nothing was made, and the report is empty.
pub record ReadsNone (asked : Asked) (given : Gave) : Type 0 where
  pub sources : given.sources ≡ asked.sources
  pub shelf : given.shelf ≡ asked.shelf
  pub none : (given.report.files ≡ []) × (given.report.tracks ≡ [])

-- No file was begun: at most the first one was made, and is kept.
pub record BeginsNone (asked : Asked) (given : Gave) : Type 0 where
  pub made : KeptAtMost (file_name asked.limits.stem 1) asked.shelf given.shelf
  pub none : TellsNone asked given.report

-- Files were begun, as an empty one is within the limit of bytes, and then a write failed, or memory ran out. Those that were closed hold the first samples of each input, and no others.
pub record RecordsToFault (asked : Asked) (given : Gave) : Type 0 where
  pub inputs : ReadInto asked given
  pub back : (before : List (List ℕ)) → asked.shelf.files ≡ Some before
      → ReadToFault asked.shelf before inputs.series (lists_of 0 asked.options inputs.setups inputs.reads) given.report given.shelf
  pub under : passes asked.limits.max_bytes (closed_length inputs.setups []) ≡ false
  pub follow : FollowToFault asked given inputs.setups (lists_of 0 asked.options inputs.setups inputs.reads)

-- all inputs were recorded, and this is the answer for the lowest of their faults
abbrev pub Recorded : Asked → Gave → SerialOutcome → Type 0
Recorded asked given outcome = (setups : List TrackSetup) × (reads : List Said) × RecordsAll asked given setups reads × (outcome ≡ lowest_fault 0 (map (λ r. r.fault) reads))

-- How the recording of several inputs ends, by its answer. A header that is refused is told so for a fault in the input's bytes, and a failed read of it as such.
abbrev pub SerialEnds : Asked → Gave → SerialOutcome → Type 0
SerialEnds asked given Done = Recorded asked given Done
SerialEnds asked given WriteFault = Rose asked.shelf.faults given.shelf.faults × (BeginsNone asked given ⊎ RecordsToFault asked given)
SerialEnds asked given (Limit shown) = FitsNothing asked given shown ⊎ RecordsToLimit asked given shown
SerialEnds asked given (Refused track fault) = (IsOfBytes fault.why × EndsAtHeader asked given track fault) ⊎ Recorded asked given (Refused track fault)
SerialEnds asked given (ReadFault input) = EndsAtHeader asked given input read_fault ⊎ Recorded asked given (ReadFault input)
SerialEnds asked given NoMemory = ReadsNone asked given ⊎ BeginsNone asked given ⊎ RecordsToFault asked given
