-- The run of a plan: what of it is left, and what is read out then.
use Rattle.std.specs.Prelude.{◌≡◌, ℕ, zero, suc, ◌+◌, ◌*◌, ◌≤◌, Bool, true, false, List, [], ◌∷◌, ◌++◌, length, take, Option, Some, option_and_then, option_map, Result, Ok, Err}
use Rattle.sf_movie.specs.Loaded.{Loaded, sample_count, sample_of}
use Rattle.sf_extract.specs.Current.{Extracting, advanced, current, current_sample, place_of, stored_len}
use Rattle.sf_extract.specs.Readout.{Readout, before, given, left_of, read_out, stored_in}
use Rattle.sf_extract.specs.declared.plan.Command.{Command}
use Rattle.sf_extract.specs.declared.plan.Command.TheVariants.{Select, Unselect, Seek, Read, Advance, ToEnd}
use Rattle.sf_extract.specs.declared.types.BadSample.{BadSample}
use Rattle.sf_extract.specs.declared.types.GiveFault.{GiveFault}
use Rattle.sf_extract.specs.declared.types.GiveFault.TheVariants.{Bad, NoMemory}
use Rattle.sf_extract.specs.declared.types.Place.{Place}
use Rattle.sf_extract.specs.declared.types.Turn.{Turn}
use Rattle.sf_extract.specs.declared.types.Turn.TheVariants as turns

-- A run of a plan: where its extractor stands, and the commands that aren't carried out yet.
pub record Running : Type 0 where
  pub at : Extracting
  pub left : List Command

-- what is left to read out of a file
abbrev pub rest_of : List ℕ → Running → Readout
rest_of file r = read_out file r.left r.at

-- whether a command reads the current sample
abbrev pub is_read : Command → Bool
is_read (Select t) = false
is_read (Unselect t) = false
is_read (Seek mode us) = false
is_read Read = true
is_read Advance = false
is_read ToEnd = true

-- whether the first of commands reads
abbrev pub reads_first : List Command → Bool
reads_first [] = false
reads_first (c ∷ cs) = is_read c

-- A run waits for the bytes of the current sample, which lie at a place.
pub record IsWaiting (r : Running) (place : Place) : Type 0 where
  pub reads : reads_first r.left ≡ true
  pub lies : option_map place_of (current_sample r.at) ≡ Some place
  pub size : stored_len r.at ≡ Some place.len

-- what a run needs next: the bytes of the current sample, or nothing, since it's over
abbrev pub Needs : Turn → Running → Type 0
Needs (turns.Read place) r = IsWaiting r place
Needs turns.Done r = r.left ≡ []

-- how many samples so many tracks from one on have
unfoldable pub all_from : Loaded → ℕ → ℕ → ℕ
all_from m t zero = 0
all_from m t (suc n) = sample_count m.movie t + all_from m (t + 1) n

-- how many samples an extractor can read without a seek, at most
abbrev pub most_of : Extracting → ℕ
most_of e = all_from e.loaded 0 (length e.positions)

-- A number that falls with each command that is carried out, and with each sample that is read.
abbrev pub weight : Running → ℕ
weight r = length r.left * (most_of r.at + 1) + left_of r.at

-- A run went on, and bytes grew: with what is left to read out after them, of whatever file, they are what they were with what was left.
pub record GoesOn (old new : List ℕ) (was now : Running) : Type 0 where
  pub rest : (file : List ℕ) → before new (rest_of file now) ≡ before old (rest_of file was)
  pub out : take (length old) new ≡ old
  pub loaded : now.at.loaded ≡ was.at.loaded
  pub lighter : weight now ≤ weight was

-- the record of the current sample of these stored bytes, or that it's refused, where there is one
abbrev pub given_now : Extracting → List ℕ → Option (Result (List ℕ) BadSample)
given_now e stored = option_and_then (λ c. option_map (λ s. given e.loaded c s stored) (sample_of e.loaded.movie c.track c.sample)) (current e)

-- Bytes grew by the record of a sample.
pub record GrowsBy (old new : List ℕ) (said : Option (Result (List ℕ) BadSample)) : Type 0 where
  pub bytes : List ℕ
  pub is : said ≡ Some (Ok bytes)
  pub grew : new ≡ old ++ bytes

-- Bytes grew by the record of a sample; or they are as before where it's refused, or for want of memory.
abbrev pub PutsRecord : List ℕ → List ℕ → Option (Result (List ℕ) BadSample) → Result (Unit {0}) GiveFault → Type 0
PutsRecord old new said (Ok u) = GrowsBy old new said
PutsRecord old new said (Err (Bad bad)) = (said ≡ Some (Err bad)) × (new ≡ old)
PutsRecord old new said (Err NoMemory) = new ≡ old

-- a run after a sample was read: a command that reads up to the end stays until there
abbrev pub after_read : Extracting → List Command → Running
after_read e [] = record { at = e; left = [] }
after_read e (Select t ∷ cs) = record { at = e; left = Select t ∷ cs }
after_read e (Unselect t ∷ cs) = record { at = e; left = Unselect t ∷ cs }
after_read e (Seek mode us ∷ cs) = record { at = e; left = Seek mode us ∷ cs }
after_read e (Read ∷ cs) = record { at = e; left = cs }
after_read e (Advance ∷ cs) = record { at = e; left = Advance ∷ cs }
after_read e (ToEnd ∷ cs) = record { at = advanced e; left = ToEnd ∷ cs }

-- the stored bytes of the current sample in a file are these
abbrev pub Stores : List ℕ → Extracting → List ℕ → Type 0
Stores file e stored = option_map (stored_in file) (current_sample e) ≡ Some stored
