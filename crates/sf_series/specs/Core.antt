-- The core of a recording: chunks are handed and written in whatever order.
use Rattle.std.specs.Prelude.{ℕ, ◌==◌, nat_lt, Bool, true, false, ◌&&◌, List, [], ◌∷◌, ◌++◌, length, replicate, set, Option, Some, None, if◌then◌else◌}
use Rattle.sf_tick.specs.declared.types.Chunk.{Chunk}
use Rattle.sf_entry.specs.declared.track_setup.TrackSetup.{TrackSetup}
use Rattle.sf_interleave.specs.Waiting.{earliest_front, with_chunk, without_front}
use Rattle.sf_series.specs.declared.limits.Limits.{Limits}
use Rattle.sf_series.specs.Switching.{Put, Into, Next, Limit, put, files_after}

-- The chunks handed of each track and those of them that wait, whether each track's last chunk was handed, the chunks in files, and whether nothing more is written.
pub record State : Type 0 where
  pub handed : List (List Chunk)
  pub pending : List (List Chunk)
  pub marks : List Bool
  pub files : List (List Chunk)
  pub ended : Bool

-- so many tracks of which nothing was handed, and one empty file
abbrev pub fresh : ℕ → State
fresh tracks = record { handed = replicate tracks []; pending = replicate tracks []; marks = replicate tracks false; files = [] ∷ []; ended = false }

-- whether a chunk has samples
abbrev pub is_filled : Chunk → Bool
is_filled chunk = nat_lt 0 (length chunk.samples)

-- the lists with a chunk at the end of its track's; an empty one joins none
abbrev pub with_filled : List (List Chunk) → Chunk → List (List Chunk)
with_filled lists chunk = if is_filled chunk then with_chunk lists chunk else lists

-- the marks with that of a chunk's track, where it is its last chunk
abbrev pub with_mark : List Bool → Chunk → List Bool
with_mark marks chunk = if chunk.last then set marks chunk.track true else marks

-- the state with a chunk that is taken, in what was handed and in what waits
abbrev pub taken : State → Chunk → State
taken state chunk = record state { handed = with_filled state.handed chunk; pending = with_filled state.pending chunk; marks = with_mark state.marks chunk }

-- a chunk is handed; where nothing more is written it changes nothing
abbrev pub hand : State → Chunk → State
hand state chunk = if state.ended then state else taken state chunk

-- a chunk that waits is put into files, or a limit ends them
abbrev pub put_in : State → Chunk → Put → State
put_in state chunk Into = record state { pending = without_front state.pending chunk.track; files = files_after state.files chunk Into }
put_in state chunk Next = record state { pending = without_front state.pending chunk.track; files = files_after state.files chunk Next }
put_in state chunk (Limit shown) = record state { ended = true }

-- the chunk that is written next is put where the switching rule says; where none waits nothing changes
abbrev pub write_picked : Limits → List TrackSetup → State → Option Chunk → State
write_picked limits setups state None = state
write_picked limits setups state (Some chunk) = put_in state chunk (put limits setups state.files chunk)

-- the earliest chunk that waits is written
abbrev pub write : Limits → List TrackSetup → State → State
write limits setups state = write_picked limits setups state (earliest_front state.pending)

-- What a write leaves that fails or finds no memory: nothing more is written, and where it had closed the open file the next one is empty.
abbrev pub failed : Bool → State → State
failed closed state = record state { files = (if closed then state.files ++ [] ∷ [] else state.files); ended = true }

-- A chunk is handed, or one is written.
pub data Step : Type 0 where
  Hand : Chunk → Step
  Write : Step

abbrev pub step : Limits → List TrackSetup → State → Step → State
step limits setups state (Hand chunk) = hand state chunk
step limits setups state Write = write limits setups state

-- The state after steps, in whatever order.
abbrev pub after : Limits → List TrackSetup → State → List Step → State
after limits setups state [] = state
after limits setups state (s ∷ steps) = after limits setups (step limits setups state s) steps

-- the chunks of a track that the steps hand, but for empty ones
abbrev pub handed_in : ℕ → List Step → List Chunk
handed_in track [] = []
handed_in track (Write ∷ steps) = handed_in track steps
handed_in track (Hand chunk ∷ steps) = if is_filled chunk && (chunk.track == track) then chunk ∷ handed_in track steps else handed_in track steps
