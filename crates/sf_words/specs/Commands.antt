-- What the words of a command line ask for.
use Rattle.std.specs.Prelude.{◌≡◌, ⊤, ◌^◌, nat_le, List, [], ◌∷◌, codes, Option, Some, None, option_and_then, Result, Ok, Err, if◌then◌else◌}
use Rattle.std.specs.Str.{bytes_eq}
use Rattle.sf_words.specs.Reading.{Word, Given, read}
use Rattle.sf_words.specs.Values.{number, said, text, threads, values_of, words_from}
use Rattle.sf_words.specs.declared.command.Command.{Command}
use Rattle.sf_words.specs.declared.command.Command.TheVariants.{Record, Extract, List as Listing, Make}
use Rattle.sf_words.specs.declared.command.RecordNumbers.{RecordNumbers}
use Rattle.sf_words.specs.declared.command.ExtractNumbers.{ExtractNumbers}
use Rattle.sf_words.specs.declared.command.Threads.TheVariants.{Threaded}
use Rattle.sf_words.specs.declared.faults.UsageFault.{UsageFault}
use Rattle.sf_words.specs.declared.faults.UsageFault.TheVariants as usage
use Rattle.sf_words.specs.declared.faults.WordsFault.{WordsFault}
use Rattle.sf_words.specs.declared.faults.WordsFault.TheVariants.{NoMemory, Usage}

infixl 10 ◌>>=◌
-- a step after a step that gave something
abbrev pub ◌>>=◌ : {A B : Type 0} → Option A → (A → Option B) → Option B
o >>= f = option_and_then f o

-- the values given to the option of a name
abbrev pub Values : Type 0
Values = Word → List Word

-- the options of each command
abbrev pub record_options : List Word
record_options =
    codes "start-us" ∷ codes "interleave-us" ∷ codes "max-bytes" ∷ codes "max-duration-us" ∷ codes "max-files" ∷ codes "threads" ∷ codes "out" ∷ []

abbrev pub extract_options : List Word
extract_options = codes "pages" ∷ codes "low" ∷ codes "high" ∷ codes "threads" ∷ codes "out" ∷ []

abbrev pub make_options : List Word
make_options = codes "threads" ∷ []

-- the options of `record` that are numbers, with their defaults and ranges
unfoldable pub record_numbers : Values → Option RecordNumbers
record_numbers values = do
  start_us ← said 0 (number 0 (2 ^ 48)) (values (codes "start-us"))
  interleave_us ← said 1000000 (number 0 (2 ^ 48)) (values (codes "interleave-us"))
  max_bytes ← said 0 (number 0 (2 ^ 62)) (values (codes "max-bytes"))
  max_duration_us ← said 0 (number 0 (2 ^ 48)) (values (codes "max-duration-us"))
  max_files ← said 1 (number 1 99999) (values (codes "max-files"))
  Some (record { start_us = start_us; interleave_us = interleave_us; max_bytes = max_bytes; max_duration_us = max_duration_us; max_files = max_files })

-- what `record INPUT..` asks: 1 to 16 inputs, and the stem of the names of the files
unfoldable pub record_asked : List Word → Values → Option Command
record_asked words values = do
  numbers ← record_numbers values
  way ← said Threaded threads (values (codes "threads"))
  out ← said (codes "out") text (values (codes "out"))
  inputs ← words_from 1 16 words
  Some (Record (record { inputs = inputs; numbers = numbers; threads = way; out = out }))

-- the options of `extract` that are numbers: the pages that are kept, and the water marks in bytes, the low one not above the high one
unfoldable pub extract_numbers : Values → Option ExtractNumbers
extract_numbers values = do
  pages ← said 400 (number 1 4096) (values (codes "pages"))
  low ← said 4194304 (number 0 (2 ^ 30)) (values (codes "low"))
  high ← said 20971520 (number 0 (2 ^ 30)) (values (codes "high"))
  if nat_le low high then Some (record { pages = pages; low = low; high = high }) else None

-- what `extract MOVIE PLAN..` asks: a movie and 1 to 16 plans, and the stem of the names of the dumps
abbrev pub movie_and_plans : List Word → Option (Word × List Word)
movie_and_plans [] = None
movie_and_plans (movie ∷ plans) = Some (movie, plans)

unfoldable pub extract_asked : List Word → Values → Option Command
extract_asked words values = do
  numbers ← extract_numbers values
  way ← said Threaded threads (values (codes "threads"))
  out ← said (codes "out") text (values (codes "out"))
  filled ← words_from 2 17 words
  named ← movie_and_plans filled
  Some (Extract (record { movie = named.0; plans = named.1; numbers = numbers; threads = way; out = out }))

-- what `list MOVIE` asks: one movie
abbrev pub only_word : List Word → Option Word
only_word (movie ∷ []) = Some movie
only_word _ = None

unfoldable pub list_asked : List Word → Option Command
list_asked words = do
  filled ← words_from 1 1 words
  movie ← only_word filled
  Some (Listing movie)

-- what `make COUNT TRACKS` asks: 0 to 200,000 samples of each of 1 to 8 tracks
abbrev pub two_words : List Word → Option (Word × Word)
two_words (first ∷ second ∷ []) = Some (first, second)
two_words _ = None

unfoldable pub make_asked : List Word → Values → Option Command
make_asked words values = do
  filled ← words_from 2 2 words
  both ← two_words filled
  count ← number 0 200000 both.0
  tracks ← number 1 8 both.1
  way ← said Threaded threads (values (codes "threads"))
  Some (Make (record { count = count; tracks = tracks; threads = way }))

-- what was asked, or words that don't say it
abbrev pub or_usage : Option Command → Result Command UsageFault
or_usage None = Err usage.Words
or_usage (Some command) = Ok command

-- what the words that were read ask of a command
abbrev pub asked : (List Word → Values → Option Command) → Option Given → Result Command UsageFault
asked asks None = Err usage.Words
asked asks (Some given) = or_usage (asks given.positional (λ name. values_of name given.options))

-- What the words of a command line ask for, or what is wrong with them.
unfoldable pub command : List Word → Result Command UsageFault
command [] = Err usage.Command
command (first ∷ words) =
    if bytes_eq first (codes "record") then asked record_asked (read record_options None words)
    else if bytes_eq first (codes "extract") then asked extract_asked (read extract_options None words)
    else if bytes_eq first (codes "list") then asked (λ given values. list_asked given) (read [] None words)
    else if bytes_eq first (codes "make") then asked make_asked (read make_options None words)
    else Err usage.Command

-- An answer is what the words ask for, or what is wrong with them, or memory ran out.
abbrev pub IsRead : Result Command UsageFault → Result Command WordsFault → Type 0
IsRead said (Ok command) = said ≡ Ok command
IsRead said (Err (Usage fault)) = said ≡ Err fault
IsRead said (Err NoMemory) = ⊤
