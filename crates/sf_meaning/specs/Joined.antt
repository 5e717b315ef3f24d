-- The samples that a file holds with their bytes, and those of a series of files joined in order.
use Rattle.std.specs.Prelude.{ℕ, ℤ, pos, ◌+◌, ◌*◌, ◌/◌, ◌+ℤ◌, Bool, List, [], ◌∷◌, ◌++◌, take, drop, map, Option, Some, None, Ok, Err}
use Rattle.std.specs.List.{slice_get}
use Rattle.sf_tick.specs.Tick.{tick}
use Rattle.sf_meaning.specs.Movie.{Step, movie}
use Rattle.sf_meaning.specs.declared.movie.PlainSample.{PlainSample}
use Rattle.sf_meaning.specs.declared.movie.PlainTrack.{PlainTrack}
use Rattle.sf_meaning.specs.declared.movie.PlainMovie.{PlainMovie}

-- A sample as a file holds it: when it is decoded and shown, in ticks, whether it is sync, and its bytes.
pub record Held : Type 0 where
  pub decode : ℕ
  pub compose : ℤ
  pub sync : Bool
  pub bytes : List ℕ

-- a sample of a movie with the file's bytes
abbrev pub held_in_file : List ℕ → PlainSample → Held
held_in_file file s = record { decode = s.decode; compose = s.compose; sync = s.sync; bytes = take s.size (drop s.place file) }

-- what is said of a track, where there is one
abbrev pub said_of : {A : Type 0} → (PlainTrack → A) → Option PlainTrack → Option A
said_of f None = None
said_of f (Some track) = Some (f track)

-- what is said of a track of a movie; none where there is no movie with such a track
abbrev pub of_track : {A : Type 0} → (PlainMovie → PlainTrack → A) → ℕ → Step PlainMovie → Option A
of_track f t (Err e) = None
of_track f t (Ok m) = said_of (f m) (slice_get m.tracks t)

-- The samples of a track of a file, each with its bytes.
unfoldable pub content : List ℕ → ℕ → Option (List Held)
content file t = of_track (λ m track. map (held_in_file file) track.samples) t (movie file)

-- ticks of the movie in microseconds, rounded down
abbrev pub lead_us : PlainMovie → PlainTrack → ℕ
lead_us m track = track.lead * 1000000 / m.scale

-- The tick at which a track of a file begins, from the start of the series.
unfoldable pub begins_at : List ℕ → ℕ → Option ℕ
begins_at file t = of_track (λ m track. tick (m.start_us + lead_us m track) track.scale) t (movie file)

-- so many ticks later
abbrev pub later : ℕ → List Held → List Held
later by samples = map (λ s. record { decode = s.decode + by; compose = s.compose +ℤ pos by; sync = s.sync; bytes = s.bytes }) samples

abbrev pub moved : Option ℕ → Option (List Held) → Option (List Held)
moved None samples = None
moved (Some by) None = None
moved (Some by) (Some samples) = Some (later by samples)

abbrev pub followed : Option (List Held) → Option (List Held) → Option (List Held)
followed None more = None
followed (Some samples) None = None
followed (Some samples) (Some more) = Some (samples ++ more)

-- The samples of a track of a series of files, joined in order, with times from the series' start; none where a file is no movie with such a track.
unfoldable pub joined : List (List ℕ) → ℕ → Option (List Held)
joined [] t = Some []
joined (file ∷ files) t = followed (moved (begins_at file t) (content file t)) (joined files t)
