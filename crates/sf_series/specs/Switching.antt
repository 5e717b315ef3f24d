-- Which file of a series the next chunk goes into, or the limit that it meets.
use Rattle.std.specs.Prelude.{◌≡◌, ℕ, ◌+◌, ◌*◌, ◌==◌, nat_le, nat_lt, Bool, false, not, ◌&&◌, ◌||◌, is_some, List, [], ◌∷◌, ◌++◌, length, Option, Some, None, if◌then◌else◌}
use Rattle.sf_tick.specs.declared.types.Stored.{Stored}
use Rattle.sf_tick.specs.declared.types.Chunk.{Chunk}
use Rattle.sf_entry.specs.declared.track_setup.TrackSetup.{TrackSetup}
use Rattle.sf_layout.specs.Headers.{for_kind}
use Rattle.sf_layout.specs.Layout.{layout, movie_box, track_samples, tracks_of}
use Rattle.sf_layout.specs.Written.{start_in}
use Rattle.sf_series.specs.declared.limits.Limits.{Limits}
use Rattle.sf_series.specs.declared.limits.LimitShown.{LimitShown}
use Rattle.sf_series.specs.declared.limits.LimitShown.TheVariants.{Nothing, Size, Movie, Count, Duration}
use Rattle.sf_series.specs.Files.{flat, open_file, into_open, into_next}

-- how many bytes the closed file of these chunks has, how many of them its movie box, and how many samples of a track it holds
abbrev pub closed_length : List TrackSetup → List Chunk → ℕ
closed_length setups file = length (layout setups file)

abbrev pub movie_length : List TrackSetup → List Chunk → ℕ
movie_length setups file = length (movie_box (tracks_of setups file))

abbrev pub count_of : ℕ → List Chunk → ℕ
count_of track file = length (track_samples track file)

-- whether a value passes a limit, 0 for no limit
abbrev pub passes : ℕ → ℕ → Bool
passes max value = not (max == 0) && nat_lt max value

-- the limit that a file of these chunks passes, if any: it has too many bytes, or its movie box more than 2^28, or this track more than 2^24 samples in it
unfoldable pub over : Limits → List TrackSetup → ℕ → ℕ → List Chunk → Option LimitShown
over limits setups track sample file =
    if passes limits.max_bytes (closed_length setups file) then Some (Size track sample (closed_length setups file) limits.max_bytes)
    else if nat_lt 268435456 (movie_length setups file) then Some (Movie track sample (movie_length setups file) 268435456)
    else if nat_lt 16777216 (count_of track file) then Some (Count track sample (count_of track file) 16777216)
    else None

-- whether the closed file of these chunks has more than nine tenths of the most bytes
abbrev pub soft : Limits → List TrackSetup → List Chunk → Bool
soft limits setups file = passes (9 * limits.max_bytes) (10 * closed_length setups file)

-- whether a chunk begins too long after the start of the file of these chunks
abbrev pub late : Limits → List TrackSetup → List Chunk → Chunk → Bool
late limits setups file chunk = not (limits.max_duration_us == 0) && nat_le (start_in setups file + limits.max_duration_us) chunk.first_us

-- the number of the first track of video, of tracks that are numbered from here on, if there is one
abbrev pub video_from : ℕ → List TrackSetup → Option ℕ
video_from number [] = None
video_from number (setup ∷ setups) = for_kind setup.kind (Some number) (video_from (number + 1) setups)

-- whether it is the track at whose sync samples files begin: the first one of video, else the first one
abbrev pub is_lead_track : Option ℕ → ℕ → Bool
is_lead_track None track = track == 0
is_lead_track (Some lead) track = track == lead

-- whether the first of samples is sync (8.6.2)
abbrev pub begins_sync : List Stored → Bool
begins_sync [] = false
begins_sync (s ∷ ss) = s.sync

-- whether a file may begin with a chunk: it is of the lead track, and decoding can begin with it
abbrev pub is_lead : List TrackSetup → Chunk → Bool
is_lead setups chunk = is_lead_track (video_from 0 setups) chunk.track && begins_sync chunk.samples

-- Where the next chunk goes: into the open file, into the next one, or nowhere.
pub data Put : Type 0 where
  Into : Put
  Next : Put
  Limit : LimitShown → Put

-- an answer where no limit is passed
abbrev pub unless : Option LimitShown → Put → Put
unless None answer = answer
unless (Some shown) answer = Limit shown

-- the limit of the last file's duration, where a chunk passes it with which a file may begin
abbrev pub too_long : Limits → List TrackSetup → ℕ → List Chunk → Chunk → Option LimitShown
too_long limits setups sample file chunk =
    if is_lead setups chunk && late limits setups file chunk then Some (Duration chunk.track sample chunk.first_us (start_in setups file) limits.max_duration_us)
    else None

-- whether the next file is to begin with a chunk: with it the open file of these chunks passes a limit, or it may begin there and the file is large or lasts long
abbrev pub is_next : Limits → List TrackSetup → ℕ → List Chunk → Chunk → Bool
is_next limits setups sample file chunk =
    is_some (over limits setups chunk.track sample (file ++ chunk ∷ []))
    || (is_lead setups chunk && (soft limits setups (file ++ chunk ∷ []) || late limits setups file chunk))

-- where a chunk goes after the chunks of the open file, by whether there may be a next file
abbrev pub put_after : Limits → List TrackSetup → Bool → ℕ → List Chunk → Chunk → Put
put_after limits setups more sample file chunk =
    if not (is_next limits setups sample file chunk) then Into
    else if more then unless (over limits setups chunk.track sample (chunk ∷ [])) Next
    else unless (over limits setups chunk.track sample (file ++ chunk ∷ [])) (unless (too_long limits setups sample file chunk) Into)

-- where a chunk goes that begins with this sample of its track
abbrev pub put_at : Limits → List TrackSetup → Bool → ℕ → List Chunk → Chunk → Put
put_at limits setups more sample [] chunk = unless (over limits setups chunk.track sample (chunk ∷ [])) Into
put_at limits setups more sample (first ∷ file) chunk = put_after limits setups more sample (first ∷ file) chunk

-- The switching rule: where the next chunk goes, after the chunks of these files.
unfoldable pub put : Limits → List TrackSetup → List (List Chunk) → Chunk → Put
put limits setups files chunk =
    put_at limits setups (nat_lt (length files) limits.max_files) (count_of chunk.track (flat files)) (open_file files) chunk

-- the files after an answer
abbrev pub files_after : List (List Chunk) → Chunk → Put → List (List Chunk)
files_after files chunk Into = into_open files chunk
files_after files chunk Next = into_next files chunk
files_after files chunk (Limit shown) = files

-- a limit that was met is shown with the track of the chunk that met it, and with the number of its first sample
abbrev pub Shows : LimitShown → ℕ → ℕ → Type 0
Shows (Nothing would_be max) track sample = ⊥
Shows (Size t s would_be max) track sample = (t ≡ track) × (s ≡ sample)
Shows (Movie t s would_be max) track sample = (t ≡ track) × (s ≡ sample)
Shows (Count t s would_be max) track sample = (t ≡ track) × (s ≡ sample)
Shows (Duration t s at_us file_start_us max_us) track sample = (t ≡ track) × (s ≡ sample)

-- The files of chunks that are put one after the other, and the limit that ended them, if any.
pub record Switched : Type 0 where
  pub files : List (List Chunk)
  pub limit : Option LimitShown

-- what chunks become after an answer, where a limit ends them
abbrev pub go_on : List (List Chunk) → Put → Switched → Switched
go_on files Into rest = rest
go_on files Next rest = rest
go_on files (Limit shown) rest = record { files = files; limit = Some shown }

-- chunks that are put one after the other after those of files
abbrev pub switched_from : Limits → List TrackSetup → List (List Chunk) → List Chunk → Switched
switched_from limits setups files [] = record { files = files; limit = None }
switched_from limits setups files (chunk ∷ order) =
    go_on files (put limits setups files chunk) (switched_from limits setups (files_after files chunk (put limits setups files chunk)) order)

-- Chunks that are put one after the other, from one empty file on.
abbrev pub switched : Limits → List TrackSetup → List Chunk → Switched
switched limits setups order = switched_from limits setups ([] ∷ []) order
