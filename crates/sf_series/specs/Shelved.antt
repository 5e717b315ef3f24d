-- What a shelf holds of a series of files.
use Rattle.std.specs.Prelude.{◌≡◌, ℕ, List, [], ◌∷◌, ◌++◌, length, map, Option, Some, option_map}
use Rattle.sf_tick.specs.declared.types.Chunk.{Chunk}
use Rattle.sf_entry.specs.declared.track_setup.TrackSetup.{TrackSetup}
use Rattle.sf_world.specs.Contents.{shelved}
use Rattle.sf_world.specs.Views.{KeptAtMost, ShelfView}
use Rattle.sf_layout.specs.Layout.{layout}
use Rattle.sf_series.specs.Names.{file_name, names_to}

-- the files but the open one
abbrev pub closed_in : List (List Chunk) → List (List Chunk)
closed_in [] = []
closed_in (file ∷ []) = []
closed_in (file ∷ next ∷ files) = file ∷ closed_in (next ∷ files)

-- the files of a shelf with more after them, where it tells its files
abbrev pub with_files : Option (List (List ℕ)) → List (List ℕ) → Option (List (List ℕ))
with_files files more = option_map (λ fs. fs ++ more) files

-- All these files were made, closed and kept, in order and by their names, on a shelf that showed this before.
pub record AllKept (begun : ShelfView) (stem : List ℕ) (setups : List TrackSetup) (files : List (List Chunk)) (shelf : ShelfView) : Type 0 where
  pub named : shelf.names ≡ begun.names ++ names_to stem (length files)
  pub kept : shelf.files ≡ with_files begun.files (map (layout setups) files)

-- A sink of this name was made.
pub record IsMade (name : List ℕ) (before after : ShelfView) : Type 0 where
  pub named : after.names ≡ before.names ++ name ∷ []
  pub kept : after.files ≡ before.files

-- One more file was kept, which holds these bytes.
pub record KeptMore (file : List ℕ) (before after : ShelfView) : Type 0 where
  pub named : after.names ≡ before.names
  pub kept : after.files ≡ shelved before.files (Some file)

-- one more file was kept, which holds some bytes
abbrev pub KeptSomeMore : ShelfView → ShelfView → Type 0
KeptSomeMore before after = (file : List ℕ) × KeptMore file before after

-- All of these files but the open one are closed and kept, and the open one was made after them.
pub record OpenOn (begun : ShelfView) (stem : List ℕ) (setups : List TrackSetup) (files : List (List Chunk)) (shelf : ShelfView) : Type 0 where
  pub before : ShelfView
  pub closed : AllKept begun stem setups (closed_in files) before
  pub made : IsMade (file_name stem (length files)) before shelf

-- All of these files but the last one are closed and kept, and at most the last one is kept after them, with some bytes.
pub record BrokenOn (begun : ShelfView) (stem : List ℕ) (setups : List TrackSetup) (files : List (List Chunk)) (shelf : ShelfView) : Type 0 where
  pub before : ShelfView
  pub closed : AllKept begun stem setups (closed_in files) before
  pub last : KeptAtMost (file_name stem (length files)) before shelf
