-- The tracks of a movie, in a file of so many bytes.
use Rattle.std.specs.Prelude.{ℕ, ◌+◌, nat_le, not, Bool, List, [], ◌∷◌, length, codes, Result, Ok}
use Rattle.sf_box.specs.Boxes.{Piece}
use Rattle.sf_entry.specs.Stsd.{entries_of}
use Rattle.sf_entry.specs.declared.types.Entry.{Entry}
use Rattle.sf_entry.specs.declared.types.Entry.TheVariants as entries
use Rattle.sf_entry.specs.declared.types.EntryAt.{EntryAt}
use Rattle.sf_meaning.specs.Steps.{◌>>=◌, ◌>>◌, check, as_fault, body_at}
use Rattle.sf_meaning.specs.References.{names_other}
use Rattle.sf_meaning.specs.SampleTables.{in_stbl, needed_table}
use Rattle.sf_meaning.specs.TrackHeads.{TrackHeads, heads_in}
use Rattle.sf_meaning.specs.TrackSamples.{Tables, tables_told, samples_in}
use Rattle.sf_meaning.specs.declared.faults.MovieFault.{MovieFault}
use Rattle.sf_meaning.specs.declared.faults.MovieFault.TheVariants.{Head, Entry as EntryFault, Table, External, SampleOutside, SampleTooLarge}
use Rattle.sf_meaning.specs.declared.movie.TrackKind.{TrackKind}
use Rattle.sf_meaning.specs.declared.movie.TrackKind.TheVariants.{Avc, Aac, Other}
use Rattle.sf_meaning.specs.declared.movie.PlainSample.{PlainSample}
use Rattle.sf_meaning.specs.declared.movie.PlainTrack.{PlainTrack}

-- a step of reading a movie: its value, or the first thing that is wrong
abbrev pub Step : Type 0 → Type 0
Step A = Result A MovieFault

-- no sample entry lies in another file; for each data reference it is told whether it names this very file
abbrev pub all_own : List Bool → List EntryAt → Step (Unit {0})
all_own own [] = Ok tt
all_own own (e ∷ es) = do
  check (not (names_other own e.reference)) (External e.at)
  all_own own es

-- what a sample entry describes
abbrev pub kind_of : Entry → TrackKind
kind_of (entries.Avc config) = Avc
kind_of (entries.Aac config) = Aac
kind_of (entries.Other kind) = Other

-- what a track's samples are, by its first entry
abbrev pub kind_in : List EntryAt → TrackKind
kind_in [] = Other
kind_in (e ∷ es) = kind_of e.entry

-- the sample entries among the boxes of a sample table box whose body begins at a place (8.5.2)
unfoldable pub entries_told : List Bool → ℕ → List Piece → Step (List EntryAt)
entries_told own at ps = do
  stsd ← as_fault Table (needed_table at (codes "stsd") ps)
  es ← as_fault EntryFault (entries_of (body_at stsd) stsd.body)
  all_own own es
  Ok es

-- What a track box says (8.3.1): its headers, its sample entries, its tables.
pub record TrackParts : Type 0 where
  pub heads : TrackHeads
  pub entries : List EntryAt
  pub tables : Tables

unfoldable pub parts_in : ℕ → Piece → Step TrackParts
parts_in movie_scale trak = do
  heads ← as_fault Head (heads_in movie_scale trak)
  ps ← as_fault Table (in_stbl heads.stbl)
  es ← entries_told heads.own (body_at heads.stbl) ps
  tables ← as_fault Table (tables_told (body_at heads.stbl) ps)
  Ok (record { heads = heads; entries = es; tables = tables })

-- a sample lies in the file, and isn't too long
abbrev pub held_sample : ℕ → ℕ → ℕ → PlainSample → Step PlainSample
held_sample bytes track i s = do
  check (nat_le (s.place + s.size) bytes) (SampleOutside track i)
  check (nat_le s.size 67108864) (SampleTooLarge track i s.size)
  Ok s

-- so does each of these, which count from i
abbrev pub held_in : ℕ → ℕ → ℕ → List PlainSample → Step (Unit {0})
held_in bytes track i [] = Ok tt
held_in bytes track i (s ∷ ss) = do
  held_sample bytes track i s
  held_in bytes track (i + 1) ss

-- the samples, all of them in the file
abbrev pub held_samples : ℕ → ℕ → List PlainSample → Step (List PlainSample)
held_samples bytes track samples = do
  held_in bytes track 0 samples
  Ok samples

-- the samples that tables say, of a track with a timescale and so many sample entries
unfoldable pub samples_held : ℕ → ℕ → ℕ → ℕ → Tables → Step (List PlainSample)
samples_held bytes track scale entries t = do
  samples ← as_fault Table (samples_in scale entries t)
  held_samples bytes track samples

-- a track of a number
unfoldable pub track_in : ℕ → ℕ → ℕ → Piece → Step PlainTrack
track_in bytes movie_scale number trak = do
  p ← parts_in movie_scale trak
  samples ← samples_held bytes number p.heads.scale (length p.entries) p.tables
  Ok (record {
    kind = kind_in p.entries;
    scale = p.heads.scale;
    lead = p.heads.shift.lead;
    media_time = p.heads.shift.media_time;
    samples = samples;
  })

-- the tracks in order, each read whole before the next, counted from a number
unfoldable pub tracks_in : ℕ → ℕ → ℕ → List Piece → Step (List PlainTrack)
tracks_in bytes movie_scale number [] = Ok []
tracks_in bytes movie_scale number (trak ∷ traks) = do
  track ← track_in bytes movie_scale number trak
  tracks ← tracks_in bytes movie_scale (number + 1) traks
  Ok (track ∷ tracks)
