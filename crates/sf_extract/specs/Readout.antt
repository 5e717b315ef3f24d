-- The dump of a plan that is read out of a movie.
use Rattle.std.specs.Prelude.{ℕ, zero, suc, pos, ◌+◌, ◌-◌, List, [], ◌∷◌, ◌++◌, length, take, drop, Option, Some, None, is_some, Result, Ok, Err, if◌then◌else◌}
use Rattle.std.specs.Int.{w64, cast_unsigned}
use Rattle.sf_avc.specs.declared.prefixed.LengthFault.{LengthFault}
use Rattle.sf_avc.specs.declared.prefixed.LengthFault.TheVariants.{BadLength, NoMemory}
use Rattle.sf_box.specs.Boxes.{be32, be64}
use Rattle.sf_meaning.specs.Entries.{movie_entries}
use Rattle.sf_meaning.specs.Movie.{Step, movie}
use Rattle.sf_meaning.specs.Steps.{◌>>=◌}
use Rattle.sf_meaning.specs.declared.movie.PlainSample.{PlainSample}
use Rattle.sf_movie.specs.Loaded.{Loaded, sample_count, sample_of}
use Rattle.sf_extract.specs.Current.{Extracting, Positions, advanced, current, flags_of, selected, unmoved, unselected}
use Rattle.sf_extract.specs.HandedOut.{handed_out}
use Rattle.sf_extract.specs.SyncAt.{seeked}
use Rattle.sf_extract.specs.declared.plan.Command.{Command}
use Rattle.sf_extract.specs.declared.plan.Command.TheVariants.{Select, Unselect, Seek, Read, Advance, ToEnd}
use Rattle.sf_extract.specs.declared.types.BadSample.{BadSample}
use Rattle.sf_extract.specs.declared.types.Standing.{Standing}

-- A dump, whole or up to the first sample that was refused, and that sample.
pub record Readout : Type 0 where
  pub dump : List ℕ
  pub refused : Option BadSample

-- bytes in front of what is read out after them
abbrev pub before : List ℕ → Readout → Readout
before bytes rest = record { dump = bytes ++ rest.dump; refused = rest.refused }

-- a refused sample ends the dump
abbrev pub ended_by : BadSample → Readout
ended_by bad = record { dump = []; refused = Some bad }

-- what a read adds, in front of what is read out after it
abbrev pub with_read : Result (List ℕ) BadSample → Readout → Readout
with_read (Ok bytes) rest = before bytes rest
with_read (Err bad) rest = ended_by bad

-- where no unit stands
abbrev pub fault_at : LengthFault → ℕ
fault_at (BadLength at) = at
fault_at NoMemory = 0

-- a sample record: the byte 01, the track, the flags, the time in microseconds in two's complement, the length, and the bytes that are handed out
unfoldable pub record_of : Standing → PlainSample → List ℕ → List ℕ
record_of c s bytes = (1 ∷ []) ++ (be32 c.track ++ (be32 (flags_of s) ++ (be64 (cast_unsigned w64 c.shown_us) ++ (be32 (length bytes) ++ bytes))))

abbrev pub record_or : Standing → PlainSample → Result (List ℕ) LengthFault → Result (List ℕ) BadSample
record_or c s (Ok bytes) = Ok (record_of c s bytes)
record_or c s (Err fault) = Err (record { track = c.track; sample = c.sample; at = fault_at fault })

-- the record of a sample of these stored bytes, or that it is refused
unfoldable pub given : Loaded → Standing → PlainSample → List ℕ → Result (List ℕ) BadSample
given m c s stored = record_or c s (handed_out m c.track s stored)

-- the bytes of a sample in a file
abbrev pub stored_in : List ℕ → PlainSample → List ℕ
stored_in file s = take s.size (drop s.place file)

-- the record of a sample of a file; nothing where the movie has no such sample
abbrev pub given_of : List ℕ → Loaded → Standing → Option PlainSample → Result (List ℕ) BadSample
given_of file m c None = Ok []
given_of file m c (Some s) = given m c s (stored_in file s)

-- what a read of the current sample adds
abbrev pub read_of : List ℕ → Extracting → Standing → Result (List ℕ) BadSample
read_of file e c = given_of file e.loaded c (sample_of e.loaded.movie c.track c.sample)

-- the record of the current sample, or the byte 00 where there is none
abbrev pub read_or : List ℕ → Extracting → Option Standing → Result (List ℕ) BadSample
read_or file e None = Ok (0 ∷ [])
read_or file e (Some c) = read_of file e c

-- the byte 02 after an advance, then 01 where a current sample remains, else 00
abbrev pub remains : Extracting → List ℕ
remains e = 2 ∷ (if is_some (current e) then 1 else 0) ∷ []

-- how many samples of the tracks from one on stand before their ends
unfoldable pub left_from : Loaded → ℕ → Positions → ℕ
left_from m t [] = 0
left_from m t (None ∷ ps) = left_from m (t + 1) ps
left_from m t (Some i ∷ ps) = (sample_count m.movie t - i) + left_from m (t + 1) ps

abbrev pub left_of : Extracting → ℕ
left_of e = left_from e.loaded 0 e.positions

-- this where there is a current sample, or else that
abbrev pub where_one : Option Standing → (Standing → Readout) → Readout → Readout
where_one None some none = none
where_one (Some c) some none = some c

-- at most so many reads, each with an advance after it, up to the end, and then the byte 00 and what is read out from there
unfoldable pub reads : ℕ → List ℕ → Extracting → (Extracting → Readout) → Readout
reads zero file e rest = before (0 ∷ []) (rest e)
reads (suc n) file e rest = where_one (current e) (λ c. with_read (read_of file e c) (reads n file (advanced e) rest)) (before (0 ∷ []) (rest e))

-- What commands read out of a file with this movie: selecting, unselecting and seeking add nothing; `r` reads the current sample, `a`
-- advances, `e` reads each sample up to the end, and then adds the byte 00.
unfoldable pub read_out : List ℕ → List Command → Extracting → Readout
read_out file [] e = record { dump = []; refused = None }
read_out file (Select t ∷ cs) e = read_out file cs (selected e t)
read_out file (Unselect t ∷ cs) e = read_out file cs (unselected e t)
read_out file (Seek mode us ∷ cs) e = read_out file cs (seeked e (pos us) mode)
read_out file (Read ∷ cs) e = with_read (read_or file e (current e)) (read_out file cs e)
read_out file (Advance ∷ cs) e = before (remains (advanced e)) (read_out file cs (advanced e))
read_out file (ToEnd ∷ cs) e = reads (left_of e) file e (read_out file cs)

-- The dump of a plan that is read out of a file, where that is a movie, up to the first refused sample.
unfoldable pub readout : List ℕ → List Command → Step Readout
readout file plan = do
  m ← movie file
  es ← movie_entries file
  Ok (read_out file plan (unmoved (record { movie = m; entries = es })))
