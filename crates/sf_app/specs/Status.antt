-- The number with which the program ends.
use Rattle.std.specs.Prelude.{ℕ}
use Rattle.sf_app.specs.declared.status.Status.{Status}
use Rattle.sf_app.specs.declared.status.Status.TheVariants.{Done, Usage, OpenFault, ReadFault, WriteFault, InputRefused, MovieRefused, SampleRefused, LimitReached, PlanRefused, NoMemory}

-- the number with which the program ends
abbrev pub code_of : Status → ℕ
code_of Done = 0
code_of (Usage fault) = 2
code_of (OpenFault input) = 3
code_of (ReadFault input) = 4
code_of WriteFault = 5
code_of (InputRefused track fault) = 6
code_of (MovieRefused fault) = 7
code_of (SampleRefused reader track sample at) = 7
code_of (LimitReached limit) = 8
code_of (PlanRefused reader command) = 9
code_of NoMemory = 10
