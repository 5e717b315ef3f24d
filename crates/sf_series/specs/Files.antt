-- The files of a series, each as the list of its chunks in the order in which they were written. The last one is open.
use Rattle.std.specs.Prelude.{ℕ, ◌<◌, List, [], ◌∷◌, ◌++◌, length}
use Rattle.std.specs.List.{flat_map}
use Rattle.sf_tick.specs.declared.types.Chunk.{Chunk}
use Rattle.sf_layout.specs.Layout.{track_chunks}

-- the chunks of all files, in order
abbrev pub flat : List (List Chunk) → List Chunk
flat files = flat_map (λ file. file) files

-- the chunks of a track in files, in order
abbrev pub chunks_of_track : ℕ → List (List Chunk) → List Chunk
chunks_of_track track files = track_chunks track (flat files)

-- the open file
abbrev pub open_file : List (List Chunk) → List Chunk
open_file [] = []
open_file (file ∷ []) = file
open_file (file ∷ next ∷ files) = open_file (next ∷ files)

-- the files with one more chunk at the end of the open one
abbrev pub into_open : List (List Chunk) → Chunk → List (List Chunk)
into_open [] chunk = (chunk ∷ []) ∷ []
into_open (file ∷ []) chunk = (file ++ chunk ∷ []) ∷ []
into_open (file ∷ next ∷ files) chunk = file ∷ into_open (next ∷ files) chunk

-- the files with one more that begins with a chunk
abbrev pub into_next : List (List Chunk) → Chunk → List (List Chunk)
into_next files chunk = files ++ (chunk ∷ []) ∷ []

-- no file but the open one is empty
abbrev pub OnlyOpenEmpty : List (List Chunk) → Type 0
OnlyOpenEmpty [] = Unit {0}
OnlyOpenEmpty (file ∷ []) = Unit {0}
OnlyOpenEmpty (file ∷ next ∷ files) = (0 < length file) × OnlyOpenEmpty (next ∷ files)
