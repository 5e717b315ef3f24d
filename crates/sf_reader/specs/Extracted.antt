-- How the extraction of plans ends, and which dumps a shelf keeps of it.
use Rattle.std.specs.Prelude.{◌≡◌, ◌≢◌, ℕ, ◌⊎◌, List, ◌++◌, length, map, Option, Some, None, option_map, Ok, Err}
use Rattle.sf_world.specs.Views.{KeptNone, ShelfView}
use Rattle.sf_meaning.specs.Entries.{movie_entries}
use Rattle.sf_meaning.specs.Movie.{movie}
use Rattle.sf_meaning.specs.declared.faults.MovieFault.TheVariants as faults
use Rattle.sf_movie.specs.Loaded.{Loaded}
use Rattle.sf_extract.specs.Readout.{Readout}
use Rattle.sf_extract.specs.declared.plan.Command.{Command}
use Rattle.sf_reader.specs.Dumps.{AreBegun, AreUpTo, AreWhole, dump_names, dumps_of, first_missing, readouts, told_length}
use Rattle.sf_reader.specs.declared.outcome.ExtractOutcome.{ExtractOutcome}
use Rattle.sf_reader.specs.declared.outcome.ExtractOutcome.TheVariants.{Done, Refused, NoTrack, BadSample, ReadFault, WriteFault, NoMemory}

-- A file is this movie.
pub record IsLoaded (file : List ℕ) (m : Loaded) : Type 0 where
  pub movie : movie file ≡ Ok m.movie
  pub entries : movie_entries file ≡ Ok m.entries

-- the files of a shelf with more after them, where it tells its files
abbrev pub with_dumps : Option (List (List ℕ)) → List (List ℕ) → Option (List (List ℕ))
with_dumps files more = option_map (λ fs. fs ++ more) files

-- These dumps were made and kept, in the readers' order and by their names.
pub record KeptDumps (stem : List ℕ) (dumps : List (List ℕ)) (before after : ShelfView) : Type 0 where
  pub named : after.names ≡ before.names ++ dump_names stem (length dumps)
  pub kept : after.files ≡ with_dumps before.files dumps

-- dumps were made and kept of which this holds
abbrev pub KeptOf : List ℕ → ShelfView → ShelfView → (List (List ℕ) → Type 0) → Type 0
KeptOf stem before after P = (dumps : List (List ℕ)) × KeptDumps stem dumps before after × P dumps

-- the file is a movie whose tracks all plans name, and this holds of what they read out
abbrev pub OfReadouts : List ℕ → List (List Command) → (List Readout → Type 0) → Type 0
OfReadouts file plans P = (m : Loaded) × IsLoaded file m × (first_missing (length m.movie.tracks) 0 plans ≡ None) × P (readouts file m plans)

-- How an extraction of plans from a file ends, by its answer: every dump is the readout of its plan; the movie is refused, or a
-- plan, and no dump is made; a sample is refused, of the lowest reader of which one is; or each dump that was made is a first part.
abbrev pub Extracted : List ℕ → List (List Command) → List ℕ → ExtractOutcome → List ℕ → ShelfView → ShelfView → Type 0
Extracted file plans stem Done lengths before after =
    OfReadouts file plans (λ rs. AreWhole rs × KeptDumps stem (dumps_of rs) before after × (lengths ≡ map told_length (dumps_of rs)))
Extracted file plans stem (Refused fault) lengths before after = (movie file ≡ Err fault) × (fault ≢ faults.NoMemory) × KeptNone before after
Extracted file plans stem (NoTrack reader command) lengths before after =
    ((m : Loaded) × IsLoaded file m × (first_missing (length m.movie.tracks) 0 plans ≡ Some (record { reader = reader; command = command }))) × KeptNone before after
Extracted file plans stem (BadSample reader track sample at) lengths before after =
    OfReadouts file plans (λ rs. KeptOf stem before after (λ ds. AreUpTo reader (record { track = track; sample = sample; at = at }) ds rs))
Extracted file plans stem ReadFault lengths before after = KeptNone before after ⊎ OfReadouts file plans (λ rs. KeptOf stem before after (λ ds. AreBegun ds rs))
Extracted file plans stem WriteFault lengths before after = OfReadouts file plans (λ rs. KeptOf stem before after (λ ds. AreBegun ds rs))
Extracted file plans stem NoMemory lengths before after = KeptNone before after ⊎ OfReadouts file plans (λ rs. KeptOf stem before after (λ ds. AreBegun ds rs))
