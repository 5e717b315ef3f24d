-- What the text says of an answer. Each line ends with a line feed; numbers are decimal.
use Rattle.std.specs.Prelude.{◌≡◌, ℕ, ◌+◌, ◌⊎◌, List, [], ◌∷◌, ◌++◌, codes, Result, Ok, Err}
use Rattle.std.specs.Fmt.{decimal}
use Rattle.sf_world.specs.Views.{FailsWithin, Gains, SinkView}
use Rattle.sf_world.specs.declared.failures.Denied.{Denied}
use Rattle.sf_world.specs.declared.failures.Denied.TheVariants.{Failed, NoMemory as NoRoom}
use Rattle.sf_app.specs.declared.status.Status.{Status}
use Rattle.sf_app.specs.declared.status.Status.TheVariants.{Done, Usage, OpenFault, ReadFault, WriteFault, InputRefused, MovieRefused, SampleRefused, LimitReached, PlanRefused, NoMemory}
use Rattle.sf_series.specs.declared.limits.LimitShown.{LimitShown}
use Rattle.sf_series.specs.declared.limits.LimitShown.TheVariants.{Nothing, Size, Movie, Count, Duration}
use Rattle.sf_series.specs.declared.report.Report.{Report}

-- a line with a number and a value after its word
abbrev pub value_line : List ℕ → ℕ → ℕ → List ℕ
value_line word number value = word ++ (codes " " ++ (decimal number ++ (codes " " ++ (decimal value ++ codes "\n"))))

-- such a line for each of some values, numbered from here on
abbrev pub value_lines : List ℕ → ℕ → List ℕ → List ℕ
value_lines word number [] = []
value_lines word number (value ∷ values) = value_line word number value ++ value_lines word (number + 1) values

-- the lines of a recording that is done: how many bytes each file has, counted from 1, and how many samples each track, counted from 0
abbrev pub done_lines : Report → List ℕ
done_lines report = value_lines (codes "file") 1 report.files ++ (value_lines (codes "track") 0 report.tracks ++ codes "done\n")

-- the lines of an extraction that is done: how many bytes each dump has, counted from 1
abbrev pub dump_lines : List ℕ → List ℕ
dump_lines lengths = value_lines (codes "dump") 1 lengths ++ codes "done\n"

-- four numbers after their word, and the end of the line
abbrev pub limit_numbers : ℕ → ℕ → ℕ → ℕ → List ℕ
limit_numbers track sample would_be max =
    decimal track ++ (codes " " ++ (decimal sample ++ (codes " " ++ (decimal would_be ++ (codes " " ++ (decimal max ++ codes "\n"))))))

-- the line of a limit that was reached
abbrev pub limit_line : LimitShown → List ℕ
limit_line (Nothing would_be max) = codes "limit reached: nothing " ++ (decimal would_be ++ (codes " " ++ (decimal max ++ codes "\n")))
limit_line (Size track sample would_be max) = codes "limit reached: size " ++ limit_numbers track sample would_be max
limit_line (Movie track sample would_be max) = codes "limit reached: movie " ++ limit_numbers track sample would_be max
limit_line (Count track sample would_be max) = codes "limit reached: count " ++ limit_numbers track sample would_be max
limit_line (Duration track sample at start max) = codes "limit reached: duration " ++ (decimal track ++ (codes " " ++ (decimal sample ++ (codes " " ++ (decimal at ++ (codes " " ++ (decimal start ++ (codes " " ++ (decimal max ++ codes "\n")))))))))

-- the line of an answer other than Done
abbrev pub line_of : Status → List ℕ
line_of Done = []
line_of (Usage fault) = codes "usage: record INPUT.. | extract MOVIE PLAN.. | list MOVIE | make COUNT TRACKS\n"
line_of (OpenFault input) = codes "cannot open input " ++ (decimal input ++ codes "\n")
line_of (ReadFault input) = codes "cannot read input " ++ (decimal input ++ codes "\n")
line_of WriteFault = codes "cannot write\n"
line_of (InputRefused track fault) = codes "input refused: track " ++ (decimal track ++ (codes " at " ++ (decimal fault.place ++ codes "\n")))
line_of (MovieRefused fault) = codes "movie refused\n"
line_of (SampleRefused reader track sample at) =
    codes "sample refused: reader "
    ++ (decimal reader ++ (codes " track " ++ (decimal track ++ (codes " sample " ++ (decimal sample ++ (codes " at " ++ (decimal at ++ codes "\n")))))))
line_of (LimitReached limit) = limit_line limit
line_of (PlanRefused reader command) = codes "plan refused: reader " ++ (decimal reader ++ (codes " command " ++ (decimal command ++ codes "\n")))
line_of NoMemory = codes "no memory\n"

-- what becomes of a text into which lines are put, by the answer of the call
abbrev pub Puts : List ℕ → Result (Unit {0}) Denied → SinkView → SinkView → Type 0
Puts lines (Ok done) before after = Gains lines before after
Puts lines (Err Failed) before after = FailsWithin lines before after
Puts lines (Err NoRoom) before after = after ≡ before

-- how a text into which the lines of a done command are put turns its answer: done; or it failed; or memory ran out
abbrev pub told : Result (Unit {0}) Denied → Status
told (Ok done) = Done
told (Err Failed) = WriteFault
told (Err NoRoom) = NoMemory

-- before the text: the answer is this one, or want of memory
abbrev pub Answered : {A : Type 0} → Result A Status → Status → Type 0
Answered (Ok found) called = Done ≡ called
Answered (Err status) called = (status ≡ NoMemory) ⊎ (status ≡ called)

-- how the text tells that a command is done, by the answer: it gained all lines, or failed within them, or there was no memory for them
abbrev pub TellsDone : List ℕ → Status → SinkView → SinkView → Type 0
TellsDone lines Done t t' = Gains lines t t'
TellsDone lines (Usage fault) t t' = ⊥
TellsDone lines (OpenFault input) t t' = ⊥
TellsDone lines (ReadFault input) t t' = ⊥
TellsDone lines WriteFault t t' = FailsWithin lines t t'
TellsDone lines (InputRefused track fault) t t' = ⊥
TellsDone lines (MovieRefused fault) t t' = ⊥
TellsDone lines (SampleRefused reader track sample at) t t' = ⊥
TellsDone lines (LimitReached limit) t t' = ⊥
TellsDone lines (PlanRefused reader command) t t' = ⊥
TellsDone lines NoMemory t t' = t' ≡ t
