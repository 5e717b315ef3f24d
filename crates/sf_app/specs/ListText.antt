-- What the list of a movie says. Each line ends with a line feed; numbers are decimal.
use Rattle.std.specs.Prelude.{ℕ, ◌+◌, ◌*◌, ◌/◌, Bool, true, false, List, [], ◌∷◌, ◌++◌, length, codes}
use Rattle.std.specs.Fmt.{decimal, signed_decimal}
use Rattle.std.specs.List.{count_by}
use Rattle.sf_meaning.specs.declared.movie.PlainMovie.{PlainMovie}
use Rattle.sf_meaning.specs.declared.movie.PlainSample.{PlainSample}
use Rattle.sf_meaning.specs.declared.movie.PlainTrack.{PlainTrack}
use Rattle.sf_meaning.specs.declared.movie.TrackKind.{TrackKind}
use Rattle.sf_meaning.specs.declared.movie.TrackKind.TheVariants.{Avc, Aac, Other}

-- the word of what a track's samples are
abbrev pub kind_word : TrackKind → List ℕ
kind_word Avc = codes "avc"
kind_word Aac = codes "aac"
kind_word Other = codes "other"

-- whether decoding can begin at a sample, as a number
abbrev pub sync_number : Bool → ℕ
sync_number true = 1
sync_number false = 0

-- how long nothing is shown first, in microseconds, rounded down, from ticks of which so many make a second
abbrev pub lead_us : ℕ → ℕ → ℕ
lead_us scale lead = lead * 1000000 / scale

-- how many samples are sync
abbrev pub sync_count : List PlainSample → ℕ
sync_count samples = count_by (λ s. s.sync) samples

-- the line of a sample: its track, its number, when it is decoded and when it is shown in ticks of the track, whether it is sync, and its bytes
unfoldable pub sample_line : ℕ → ℕ → PlainSample → List ℕ
sample_line track number s =
    codes "sample "
    ++ (decimal track ++ (codes " " ++ (decimal number ++ (codes " " ++ (decimal s.decode ++ (codes " " ++ (signed_decimal s.compose ++ (codes " "
    ++ (decimal (sync_number s.sync) ++ (codes " " ++ (decimal s.size ++ codes "\n")))))))))))

-- the lines of a track's samples, counted from a number
unfoldable pub sample_lines : ℕ → ℕ → List PlainSample → List ℕ
sample_lines track number [] = []
sample_lines track number (s ∷ ss) = sample_line track number s ++ sample_lines track (number + 1) ss

-- the line of a track: its number, what its samples are, its ticks a second, how many samples and how many sync samples it has, and how long nothing is shown first, in microseconds
unfoldable pub track_line : ℕ → ℕ → PlainTrack → List ℕ
track_line scale number t =
    codes "track "
    ++ (decimal number ++ (codes " " ++ (kind_word t.kind ++ (codes " " ++ (decimal t.scale ++ (codes " " ++ (decimal (length t.samples) ++ (codes " "
    ++ (decimal (sync_count t.samples) ++ (codes " " ++ (decimal (lead_us scale t.lead) ++ codes "\n")))))))))))

-- the lines of the tracks of a movie of this timescale, counted from a number, each before those of its samples
unfoldable pub track_lines : ℕ → ℕ → List PlainTrack → List ℕ
track_lines scale number [] = []
track_lines scale number (t ∷ ts) = (track_line scale number t ++ sample_lines number 0 t.samples) ++ track_lines scale (number + 1) ts

-- the line of a movie: when it starts, in microseconds
unfoldable pub start_line : ℕ → List ℕ
start_line us = codes "start " ++ (decimal us ++ codes "\n")

-- The list of a movie.
unfoldable pub listed : PlainMovie → List ℕ
listed m = start_line m.start_us ++ track_lines m.scale 0 m.tracks
