-- How the chunks of pumps are handed to a series of files.
use Rattle.std.specs.Prelude.{◌≡◌, ℕ, ◌*◌, ◌<◌, ◌≤◌, ◌⊎◌, Bool, false, sum_by, List, [], ◌∷◌, ◌++◌, length, slice_get, get_or, Option, Some, None}
use Rattle.sf_tick.specs.declared.types.Stored.{Stored}
use Rattle.sf_tick.specs.declared.types.Chunk.{Chunk}
use Rattle.sf_entry.specs.declared.track_setup.TrackSetup.{TrackSetup}
use Rattle.sf_gather.specs.Proper.{ends_marked}
use Rattle.sf_interleave.specs.Waiting.{list_of}
use Rattle.sf_series.specs.declared.faults.SeriesFault.{SeriesFault}
use Rattle.sf_series.specs.Core.{State, failed, hand}
use Rattle.sf_series.specs.Fitting.{AreProper, CanHand}
use Rattle.sf_series.specs.Kept.{Kept}
use Rattle.sf_series.specs.Series.{Breaks, OpenSeries, Stands as SeriesStands}
use Rattle.sf_world.specs.Counts.{Rose}
use Rattle.sf_world.specs.Views.{ShelfView, Unchanged}
use Rattle.sf_record.specs.Input.{read_fault}
use Rattle.sf_record.specs.Serial.{filled}
use Rattle.sf_record.specs.inner.InTurn.{InTurn}
use Rattle.sf_record.specs.Pump.{NotEndedEarly, Pumping, Stands, turns_left}

-- a pump stands for some accepted samples
abbrev pub GoesOn : Option (List ℕ) → List Chunk → Pumping → Type 0
GoesOn contents taken pump = (accepted : List Stored) × Stands contents accepted taken pump

-- The last chunk of a pump was taken.
pub record IsOver (pump : Pumping) : Type 0 where
  pub free : pump.chunk ≡ None
  pub last : pump.gatherer ≡ None

-- A chunk was taken of a pump after others. An empty one is the last.
pub record Took (contents : Option (List ℕ)) (taken : List Chunk) (chunk : Chunk) (pump : Pumping) : Type 0 where
  pub goes : GoesOn contents (taken ++ chunk ∷ []) pump
  pub free : pump.chunk ≡ None
  pub empty : length chunk.samples ≡ 0 → pump.gatherer ≡ None

-- what becomes of a pump of which its next chunk is taken, if there is one
abbrev pub NextIs : Option (List ℕ) → List Chunk → Pumping → Option Chunk → Type 0
NextIs contents taken pump (Some chunk) = Took contents taken chunk pump
NextIs contents taken pump None = GoesOn contents taken pump × IsOver pump

-- The chunks that were taken of a pump are those that were handed of its track.
pub record Hands (contents : Option (List ℕ)) (number scale : ℕ) (state : State) (pump : Pumping) : Type 0 where
  pub track : pump.given.track ≡ number
  pub ticks : pump.given.scale ≡ scale
  pub taken : List Chunk
  pub goes : GoesOn contents taken pump
  pub handed : list_of state.handed number ≡ filled taken
  pub mark : get_or state.marks number false ≡ ends_marked taken

-- The first chunks that were taken of a pump were handed of its track.
pub record HandsFirst (contents : Option (List ℕ)) (number scale : ℕ) (state : State) (pump : Pumping) : Type 0 where
  pub track : pump.given.track ≡ number
  pub ticks : pump.given.scale ≡ scale
  pub taken : List Chunk
  pub goes : GoesOn contents taken pump
  pub rest : List Chunk
  pub first : filled taken ≡ list_of state.handed number ++ rest

-- A track whose pump gives the next chunk to a series: what was taken of it was handed, and the track has a setup.
pub record Feeds (begun shelf : ShelfView) (state : State) (number : ℕ) (pump : Pumping) (series : OpenSeries) : Type 0 where
  pub stands : SeriesStands begun state series shelf
  pub setup : TrackSetup
  pub there : slice_get series.files.setups number ≡ Some setup
  pub long : number < length state.pending
  pub hands : Hands pump.coded.source.content number setup.scale state pump

-- a state is as it was, or a chunk of a track was handed that can be
abbrev pub HandedOne : List TrackSetup → ℕ → State → State → Type 0
HandedOne setups number before after = (after ≡ before) ⊎ ((chunk : Chunk) × (chunk.track ≡ number) × CanHand setups before chunk × (after ≡ hand before chunk))

-- a chunk of a track waits, or its last one was taken
abbrev pub Waits : State → ℕ → Pumping → Type 0
Waits state number pump = (0 < length (list_of state.pending number)) ⊎ IsOver pump

-- The next chunk of a track was handed, if there is one.
pub record Fed (begun shelf : ShelfView) (before after : State) (number : ℕ) (pump : Pumping) (series : OpenSeries) : Type 0 where
  pub one : HandedOne series.files.setups number before after
  pub feeds : Feeds begun shelf after number pump series
  pub waits : Waits after number pump

-- The track of a number among those of a series: it has a setup, and what was taken of its pump was handed.
pub record TrackStands (setups : List TrackSetup) (state : State) (number : ℕ) (pump : Pumping) : Type 0 where
  pub setup : TrackSetup
  pub there : slice_get setups number ≡ Some setup
  pub hands : Hands pump.coded.source.content number setup.scale state pump

-- A series stands for a state, and what was taken of each pump was handed.
pub record Deals (begun : ShelfView) (state : State) (pumps : List Pumping) (series : OpenSeries) (shelf : ShelfView) : Type 0 where
  pub stands : SeriesStands begun state series shelf
  pub kept : Kept series.files.limits series.files.setups state
  pub proper : AreProper series.files.setups state
  pub one_each : length pumps ≡ length series.files.setups
  pub tracks : (number : ℕ) (pump : Pumping) → slice_get pumps number ≡ Some pump → TrackStands series.files.setups state number pump

-- The track of a number among those of a series: it has a setup, and the first chunks that were taken of its pump were handed.
pub record TrackBegins (setups : List TrackSetup) (state : State) (number : ℕ) (pump : Pumping) : Type 0 where
  pub setup : TrackSetup
  pub there : slice_get setups number ≡ Some setup
  pub hands : HandsFirst pump.coded.source.content number setup.scale state pump

-- a state is as it was, or is what a write left of it that failed or found no memory
abbrev pub LeftBy : OpenSeries → State → State → Type 0
LeftBy series before after = (after ≡ before) ⊎ ((fault : SeriesFault) × (series.fault ≡ Some fault) × Breaks fault × ((closed : Bool) × (after ≡ failed closed before)))

-- First chunks of each pump were handed to a series, which stands for their state or for what a fault left of it. Those in files were written in turn, where this holds.
pub record DealtTo (begun : ShelfView) (Turn : Type 0) (pumps : List Pumping) (series : OpenSeries) (shelf : ShelfView) : Type 0 where
  pub state : State
  pub some : 1 ≤ length state.files
  pub kept : Kept series.files.limits series.files.setups state
  pub proper : AreProper series.files.setups state
  pub tracks : (number : ℕ) (pump : Pumping) → slice_get pumps number ≡ Some pump → TrackBegins series.files.setups state number pump
  pub turn : Turn → InTurn state
  pub after : State
  pub left : LeftBy series state after
  pub stands : SeriesStands begun after series shelf

-- of each track below a number a chunk waits, or its last one was taken
abbrev pub AllWait : ℕ → State → List Pumping → Type 0
AllWait below state pumps = (number : ℕ) (pump : Pumping) → number < below → slice_get pumps number ≡ Some pump → Waits state number pump

-- A pump over steps: what it was given and its source stay, it isn't ended early, and a failed read is kept only where its source failed.
pub record PumpOver (before after : Pumping) : Type 0 where
  pub given : after.given ≡ before.given
  pub source : Unchanged before.coded.source after.coded.source
  pub failed : after.fault ≡ Some read_fault → (before.fault ≡ Some read_fault) ⊎ Rose before.coded.source.faults after.coded.source.faults
  pub live : NotEndedEarly before → NotEndedEarly after

-- so are several
abbrev pub PumpsOver : List Pumping → List Pumping → Type 0
PumpsOver [] [] = Unit {0}
PumpsOver (b ∷ before) (a ∷ after) = PumpOver b a × PumpsOver before after
PumpsOver before after = ⊥

-- the last chunk of each pump was taken
abbrev pub AllOver : List Pumping → Type 0
AllOver pumps = (number : ℕ) (pump : Pumping) → slice_get pumps number ≡ Some pump → IsOver pump

-- how many turns are left at most of pumps, each for a chunk to be handed and one to be written
abbrev pub turns_of : List Pumping → ℕ
turns_of pumps = sum_by (λ p. 2 * turns_left p.coded.source.size p) pumps
