-- The part of a source that a block holds.
use Rattle.std.specs.Prelude.{◌≡◌, ℕ, ◌+◌, ◌≤◌, List, length, take, drop, Option, Some, None}
use Rattle.sf_world.specs.Contents.{HasLength, ReadsAt}
use Rattle.sf_world.specs.Views.{SourceView}

-- The first bytes of a block are those of the source from a place on, where these are told.
pub record Window (source : SourceView) (block : List ℕ) (from held : ℕ) : Type 0 where
  pub whole : HasLength source.content source.size
  pub room : length block ≡ 65536
  pub fits : held ≤ 65536
  pub ends : from + held ≤ source.size
  pub bytes : ReadsAt source.content from held block

-- A part of the source lies within what the block holds.
pub record Covers (from held at count : ℕ) : Type 0 where
  pub begins : from ≤ at
  pub ends : at + count ≤ from + held

-- the bytes are those of the contents from a place on, where these are told
abbrev pub AreFrom : Option (List ℕ) → ℕ → List ℕ → Type 0
AreFrom None at bytes = Unit {0}
AreFrom (Some all) at bytes = bytes ≡ take (length bytes) (drop at all)
