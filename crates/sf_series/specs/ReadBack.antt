-- What the files of a series hold, read back from the bytes that a shelf tells.
use Rattle.std.specs.Prelude.{◌≡◌, ◌≢◌, ℕ, ◌<◌, ◌≤◌, List, ◌∷◌, ◌++◌, length, map, Some, None}
use Rattle.std.specs.List.{AllByRecursion}
use Rattle.std.specs.Result.{IsOk}
use Rattle.sf_tick.specs.declared.types.Chunk.{Chunk}
use Rattle.sf_entry.specs.declared.track_setup.TrackSetup.{TrackSetup}
use Rattle.sf_world.specs.Views.{ShelfView}
use Rattle.sf_meaning.specs.Joined.{joined}
use Rattle.sf_meaning.specs.Rows.{held_as}
use Rattle.sf_meaning.specs.Movie.{movie}
use Rattle.sf_layout.specs.Layout.{layout, samples_of}
use Rattle.sf_interleave.specs.Waiting.{list_of}
use Rattle.sf_series.specs.declared.limits.Limits.{Limits}
use Rattle.sf_series.specs.declared.limits.LimitShown.{LimitShown}
use Rattle.sf_series.specs.declared.report.Report.{Report}
use Rattle.sf_series.specs.Dealt.{dealt, write_order}
use Rattle.sf_series.specs.Files.{chunks_of_track, flat}
use Rattle.sf_series.specs.Names.{names_to}
use Rattle.sf_series.specs.Series.{OpenSeries}
use Rattle.sf_series.specs.Switching.{Limit, put, switched}
use Rattle.sf_series.specs.Within.{Within}

-- the list of each track begins with these chunks of it
abbrev pub Begin : List (List Chunk) → List (List Chunk) → Type 0
Begin chunks lists = (track : ℕ) → (rest : List Chunk) × (list_of lists track ≡ list_of chunks track ++ rest)

-- Files that are read back: their own bytes say which chunks of the lists stand in which file; each file is laid out of its chunks and is accepted as a movie; none passes the limits; they hold the first chunks of each track's list, and joined in order just the samples of these.
pub record ReadBack (limits : Limits) (setups : List TrackSetup) (lists chunks : List (List Chunk)) (files : List (List ℕ)) : Type 0 where
  pub by_bytes : dealt (map (write_order (length setups)) files) lists ≡ chunks
  pub laid_out : files ≡ map (layout setups) chunks
  pub movies : AllByRecursion (λ file. IsOk (movie file)) files
  pub within : AllByRecursion (λ file. Within limits setups file) chunks
  pub sizes : limits.max_bytes ≢ 0 → AllByRecursion (λ file. length file ≤ limits.max_bytes) files
  pub fronts : (track : ℕ) → (rest : List Chunk) × (list_of lists track ≡ chunks_of_track track chunks ++ rest)
  pub samples : (track : ℕ) → track < length setups → joined files track ≡ Some (map held_as (samples_of (chunks_of_track track chunks)))

-- A shelf that had these files gained more, by the names of a series.
pub record Gained (begun : ShelfView) (before : List (List ℕ)) (stem : List ℕ) (files : List (List ℕ)) (shelf : ShelfView) : Type 0 where
  pub named : shelf.names ≡ begun.names ++ names_to stem (length files)
  pub kept : shelf.files ≡ Some (before ++ files)

-- All that was handed is read back from the files that a shelf gained: they hold of each track just these chunks, and joined in order just their samples, and follow from the order of the chunks by the switching rule. The report tells their lengths.
pub record WholeReadBack (begun : ShelfView) (before : List (List ℕ)) (series : OpenSeries) (handed lists : List (List Chunk)) (report : Report) (shelf : ShelfView) : Type 0 where
  pub chunks : List (List Chunk)
  pub files : List (List ℕ)
  pub gained : Gained begun before series.files.limits.stem files shelf
  pub back : ReadBack series.files.limits series.files.setups lists chunks files
  pub order : switched series.files.limits series.files.setups (flat chunks) ≡ record { files = chunks; limit = None }
  pub all : (track : ℕ) → chunks_of_track track chunks ≡ list_of handed track
  pub whole : (track : ℕ) → track < length series.files.setups → joined files track ≡ Some (map held_as (samples_of (list_of handed track)))
  pub lengths : report.files ≡ map length files

-- The files that a shelf gained are read back up to a limit, and follow from the order of the chunks by the switching rule: the next chunk of its track's list, after those in files, meets the limit.
pub record ReadToLimit (begun : ShelfView) (before : List (List ℕ)) (series : OpenSeries) (lists : List (List Chunk)) (shown : LimitShown) (report : Report) (shelf : ShelfView) : Type 0 where
  pub chunks : List (List Chunk)
  pub files : List (List ℕ)
  pub gained : Gained begun before series.files.limits.stem files shelf
  pub back : ReadBack series.files.limits series.files.setups lists chunks files
  pub order : switched series.files.limits series.files.setups (flat chunks) ≡ record { files = chunks; limit = None }
  pub next : Chunk
  pub rest : List Chunk
  pub follows : list_of lists next.track ≡ chunks_of_track next.track chunks ++ next ∷ rest
  pub met : put series.files.limits series.files.setups chunks next ≡ Limit shown
  pub lengths : report.files ≡ map length files

-- After a failed write the files that a shelf gained are read back but for the last one at most, which holds some bytes. The report tells the lengths of the others.
pub record ReadToFault (begun : ShelfView) (before : List (List ℕ)) (series : OpenSeries) (lists : List (List Chunk)) (report : Report) (shelf : ShelfView) : Type 0 where
  pub chunks : List (List Chunk)
  pub files : List (List ℕ)
  pub last : List (List ℕ)
  pub few : length last ≤ 1
  pub gained : Gained begun before series.files.limits.stem (files ++ last) shelf
  pub back : ReadBack series.files.limits series.files.setups lists chunks files
  pub lengths : report.files ≡ map length files
