-- A file that was made of generated inputs, and a file that is read out whole.
use Rattle.std.specs.Prelude.{◌≡◌, ℕ, List, [], ◌∷◌, length, map, slice_get, Some, None, Ok}
use Rattle.sf_meaning.specs.Joined.{content}
use Rattle.sf_meaning.specs.Movie.{movie}
use Rattle.sf_meaning.specs.Rows.{held_as}
use Rattle.sf_movie.specs.Loaded.{Loaded}
use Rattle.sf_extract.specs.Current.{unmoved}
use Rattle.sf_extract.specs.Readout.{read_out}
use Rattle.sf_extract.specs.declared.plan.Command.{Command}
use Rattle.sf_reader.specs.Dumps.{first_missing}
use Rattle.sf_reader.specs.Extracted.{IsLoaded}
use Rattle.sf_record.specs.Called.{all_said}
use Rattle.sf_record.specs.Said.{Said, usual}
use Rattle.sf_make.specs.Generator.{generated_inputs}
use Rattle.sf_selftest.specs.SelfTest.{HoldsGenerated, whole_plan}

-- A file is a movie that has each track that a plan names, and none of the samples that the plan reads is refused.
pub record IsReadWhole (plan : List Command) (file : List ℕ) : Type 0 where
  pub loaded : Loaded
  pub is : IsLoaded file loaded
  pub there : first_missing (length loaded.movie.tracks) 0 (plan ∷ []) ≡ None
  pub whole : (read_out file plan (unmoved loaded)).refused ≡ None

-- each track of a file has the samples that the generated inputs say
abbrev pub HasSaid : ℕ → ℕ → List ℕ → Type 0
HasSaid count tracks file =
    (track : ℕ) (said : Said) → slice_get (all_said 0 usual (generated_inputs count tracks)) track ≡ Some said → content file track ≡ Some (map held_as said.samples)

-- A file holds the generated inputs, and is read out whole.
pub record IsMade (count tracks : ℕ) (file : List ℕ) : Type 0 where
  pub holds : HoldsGenerated count tracks file
  pub said : HasSaid count tracks file
  pub read : IsReadWhole (whole_plan tracks) file
  pub many : length read.loaded.movie.tracks ≡ tracks
