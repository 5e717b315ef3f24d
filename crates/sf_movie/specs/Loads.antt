-- What the loading of a movie through its source answers.
use Rattle.std.specs.Prelude.{◌≡◌, ◌≢◌, ℕ, ◌+◌, ◌≤◌, List, length, Option, Some, Result, Ok, Err}
use Rattle.sf_world.specs.Counts.{Rose}
use Rattle.sf_world.specs.Views.{SourceView}
use Rattle.sf_meaning.specs.Entries.{moov_entries}
use Rattle.sf_meaning.specs.Movie.{Step, movie_in}
use Rattle.sf_meaning.specs.declared.faults.MovieFault.TheVariants as faults
use Rattle.sf_movie.specs.Loaded.{Loaded}
use Rattle.sf_movie.specs.declared.load.LoadFault.{LoadFault}
use Rattle.sf_movie.specs.declared.load.LoadFault.TheVariants.{Refused, ReadFault, NoMemory}

-- this holds of the bytes of a file, where they are told
abbrev pub OfTold : Option (List ℕ) → (List ℕ → Type 0) → Type 0
OfTold contents P = (file : List ℕ) → contents ≡ Some file → P file

-- an answer, seen by a view, is what a step of reading gives; after a failed read or for want of memory it is nothing
abbrev pub Reads : {A B : Type 0} → (A → B) → Result A LoadFault → Step B → Type 0
Reads view (Ok x) said = said ≡ Ok (view x)
Reads view (Err (Refused fault)) said = said ≡ Err fault
Reads view (Err ReadFault) said = Unit {0}
Reads view (Err NoMemory) said = Unit {0}

-- a read failed only where the count of the source rose, and want of memory is no refusal
abbrev pub IsCaused : {A : Type 0} → ℕ → ℕ → Result A LoadFault → Type 0
IsCaused before after (Ok x) = Unit {0}
IsCaused before after (Err (Refused fault)) = fault ≢ faults.NoMemory
IsCaused before after (Err ReadFault) = Rose before after
IsCaused before after (Err NoMemory) = Unit {0}

-- A source over the reading of a movie: it is as it was, but its count of faults may be greater, and rose where a read failed.
pub record LoadsOver {A : Type 0} (before after : SourceView) (result : Result A LoadFault) : Type 0 where
  pub content : after.content ≡ before.content
  pub size : after.size ≡ before.size
  pub later : before.faults ≤ after.faults
  pub cause : IsCaused before.faults after.faults result

-- A movie is that of some movie box, of at most 268,435,456 bytes, within a file of so many bytes.
pub record IsWithin (bytes : ℕ) (m : Loaded) : Type 0 where
  pub body : List ℕ
  pub at : ℕ
  pub ends : at + length body ≤ bytes
  pub short : length body ≤ 268435456
  pub movie : movie_in body at bytes ≡ Ok m.movie
  pub entries : moov_entries body at ≡ Ok m.entries
