-- What an object of the outside shows, and how a call changes what it shows.
use Rattle.std.specs.Prelude.{◌≡◌, ℕ, ◌+◌, ◌≤◌, ◌⊎◌, Bool, true, false, List, [], ◌∷◌, ◌++◌, length, take, Option, Some, Result, OnErr}
use Rattle.sf_world.specs.Contents.{BeginsEmpty, grown, shelved}
use Rattle.sf_world.specs.Counts.{Rose, both}

-- What a source shows.
pub record SourceView : Type 0 where
  -- the bytes, where they are told
  pub content : Option (List ℕ)
  -- in bytes
  pub size : ℕ
  pub faults : ℕ

-- What a sink shows.
pub record SinkView : Type 0 where
  -- the bytes, where they are told
  pub content : Option (List ℕ)
  -- in bytes
  pub size : ℕ
  pub faults : ℕ

-- What a shelf shows.
pub record ShelfView : Type 0 where
  -- the names of the sinks that were made
  pub names : List (List ℕ)
  -- the files that were kept, where they are told
  pub files : Option (List (List ℕ))
  -- how often the shelf failed, with the faults of the sinks that it keeps
  pub faults : ℕ

-- What inputs show.
pub record InputsView : Type 0 where
  -- the bytes that the source of a name has, where they are told
  pub holds : List ℕ → Option (List ℕ)
  -- the names that were asked for, each with whether a source was given
  pub asked : List (List ℕ × Bool)
  -- the faults of each source that was given back
  pub returned : List ℕ
  -- the same together, up to the last value
  pub faults : ℕ
  -- how often no source was given
  pub misses : ℕ
  -- how many sources can be given back without memory
  pub spare : ℕ

-- a source that tells these bytes, with so many faults
abbrev pub told_source : List ℕ → ℕ → SourceView
told_source bytes faults = record { content = Some bytes; size = length bytes; faults = faults }

-- a sink that tells these bytes, with so many faults
abbrev pub told_sink : List ℕ → ℕ → SinkView
told_sink bytes faults = record { content = Some bytes; size = length bytes; faults = faults }

-- A source over a call that blames no fault on it: it is as it was, but its count of faults may be greater.
pub record Unchanged (before after : SourceView) : Type 0 where
  pub content : after.content ≡ before.content
  pub size : after.size ≡ before.size
  pub later : before.faults ≤ after.faults

-- A source over a call: it is as it was, but its count of faults may be greater, and rose at any error.
pub record ReadOver {T E : Type 0} (before after : SourceView) (result : Result T E) : Type 0 where
  pub content : after.content ≡ before.content
  pub size : after.size ≡ before.size
  pub later : before.faults ≤ after.faults
  pub failed : OnErr result (Rose before.faults after.faults)

-- A source that was given just now: it has these bytes, where they are told, and never failed.
pub record IsGiven (bytes : Option (List ℕ)) (source : SourceView) : Type 0 where
  pub content : source.content ≡ bytes
  pub faults : source.faults ≡ 0

-- A sink gained these bytes at its end.
pub record Gains (bytes : List ℕ) (before after : SinkView) : Type 0 where
  pub content : after.content ≡ grown before.content bytes
  pub size : after.size ≡ before.size + length bytes

-- A sink gained some first part of the bytes at its end.
pub record GainsPart (bytes : List ℕ) (before after : SinkView) : Type 0 where
  pub count : ℕ
  pub part : count ≤ length bytes
  pub content : after.content ≡ grown before.content (take count bytes)
  pub size : after.size ≡ before.size + count

-- A sink failed, and gained a first part of the bytes at most.
pub record FailsWithin (bytes : List ℕ) (before after : SinkView) : Type 0 where
  pub part : GainsPart bytes before after
  pub failed : Rose before.faults after.faults

-- a sink gained all of some bytes, or is as it was for want of memory, or gained a first part of them because it failed
abbrev pub Says : List ℕ → SinkView → SinkView → Type 0
Says bytes before after = Gains bytes before after ⊎ (after ≡ before) ⊎ FailsWithin bytes before after

-- A sink that was made just now by a shelf: it is empty, and tells so where the shelf tells its files, and it never failed.
pub record IsNew (shelf : ShelfView) (sink : SinkView) : Type 0 where
  pub empty : BeginsEmpty shelf.files sink.content
  pub size : sink.size ≡ 0
  pub faults : sink.faults ≡ 0

-- a shelf with one more file, which is what the sink holds, and with its faults
abbrev pub with_kept : SinkView → ShelfView → ShelfView
with_kept sink shelf = record { names = shelf.names; files = shelved shelf.files sink.content; faults = both shelf.faults sink.faults }

-- No file was made.
pub record KeptNone (before after : ShelfView) : Type 0 where
  pub named : after.names ≡ before.names
  pub kept : after.files ≡ before.files

-- One file of this name was made, and kept with these bytes as the last file, where the shelf tells its files.
pub record KeptFile (name file : List ℕ) (before after : ShelfView) : Type 0 where
  pub named : after.names ≡ before.names ++ name ∷ []
  pub kept : after.files ≡ shelved before.files (Some file)

-- One file of this name was made, and kept with some bytes.
pub record KeptSome (name : List ℕ) (before after : ShelfView) : Type 0 where
  pub file : List ℕ
  pub kept : KeptFile name file before after

-- at most one file of this name was made and kept, and the earlier files stand
abbrev pub KeptAtMost : List ℕ → ShelfView → ShelfView → Type 0
KeptAtMost name before after = KeptNone before after ⊎ KeptSome name before after

-- A name was asked for, and its source was given.
pub record Gave (name : List ℕ) (before after : InputsView) : Type 0 where
  pub asked : after.asked ≡ before.asked ++ (name, true) ∷ []
  pub returned : after.returned ≡ before.returned

-- A name was asked for, and no source was given.
pub record NotGiven (name : List ℕ) (before after : InputsView) : Type 0 where
  pub asked : after.asked ≡ before.asked ++ (name, false) ∷ []
  pub returned : after.returned ≡ before.returned

-- Nothing was asked for or given back.
pub record NotAsked (before after : InputsView) : Type 0 where
  pub asked : after.asked ≡ before.asked
  pub returned : after.returned ≡ before.returned

-- A name was asked for; its source was given, and given back.
pub record GivenBack (name : List ℕ) (before after : InputsView) : Type 0 where
  pub asked : after.asked ≡ before.asked ++ (name, true) ∷ []
  pub faults : ℕ
  pub returned : after.returned ≡ before.returned ++ faults ∷ []

-- A source with so many faults was taken back.
pub record TakesBack (count : ℕ) (before after : InputsView) : Type 0 where
  pub holds : (name : List ℕ) → after.holds name ≡ before.holds name
  pub asked : after.asked ≡ before.asked
  pub returned : after.returned ≡ before.returned ++ count ∷ []
  pub faults : after.faults ≡ both before.faults count
  pub misses : after.misses ≡ before.misses
  pub spare : after.spare + 1 ≡ before.spare
