-- Chunks that are written in their order, where of each track one waits or all were handed.
use Rattle.std.specs.Prelude.{◌≡◌, ℕ, ◌+◌, ◌<◌, ◌⊎◌, Bool, true, false, get_or, List, [], ◌∷◌, ◌++◌, length}
use Rattle.std.specs.List.{AllByRecursion}
use Rattle.sf_tick.specs.declared.types.Chunk.{Chunk}
use Rattle.sf_interleave.specs.Waiting.{list_of}
use Rattle.sf_series.specs.Core.{State}
use Rattle.sf_series.specs.Files.{flat}
use Rattle.sf_series.specs.Order.{in_order}

-- lists of chunks of tracks that are numbered from here on, each with more behind it
abbrev pub with_rests : ℕ → List (List Chunk) → (ℕ → List Chunk) → List (List Chunk)
with_rests number [] rests = []
with_rests number (list ∷ lists) rests = (list ++ rests number) ∷ with_rests (number + 1) lists rests

-- What may still be handed of tracks: chunks of each, and none after its last one.
pub record MayCome (marks : List Bool) (rests : ℕ → List Chunk) : Type 0 where
  pub theirs : (track : ℕ) → AllByRecursion (λ c. c.track ≡ track) (rests track)
  pub none : (track : ℕ) → get_or marks track false ≡ true → rests track ≡ []

-- the chunks in files are the first of all in their order, whatever may come, and those that wait, with what comes, are the others
abbrev pub InTurn : State → Type 0
InTurn state = (rests : ℕ → List Chunk) → MayCome state.marks rests → in_order (with_rests 0 state.handed rests) ≡ flat state.files ++ in_order (with_rests 0 state.pending rests)

-- of each track a chunk waits, or its last one was handed
abbrev pub AllReady : State → Type 0
AllReady state = (track : ℕ) → track < length state.pending → (0 < length (list_of state.pending track)) ⊎ (get_or state.marks track false ≡ true)
