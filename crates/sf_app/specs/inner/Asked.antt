-- The answer where words ask for no command.
use Rattle.std.specs.Prelude.{◌≡◌, ◌⊎◌, Result, Err}
use Rattle.sf_words.specs.declared.command.Command.{Command}
use Rattle.sf_words.specs.declared.faults.UsageFault.{UsageFault as WordFault}
use Rattle.sf_words.specs.declared.faults.WordsFault.{WordsFault}
use Rattle.sf_words.specs.declared.faults.WordsFault.TheVariants as reads
use Rattle.sf_app.specs.Ends.{usage_of}
use Rattle.sf_app.specs.declared.status.Status.{Status}
use Rattle.sf_app.specs.declared.status.Status.TheVariants.{Usage, NoMemory}

-- the answer where no command was read
abbrev pub refused : WordsFault → Status
refused (reads.Usage fault) = Usage (usage_of fault)
refused reads.NoMemory = NoMemory

-- words gave no command: they are refused so, or memory ran out
abbrev pub GaveNone : Result Command WordFault → Status → Type 0
GaveNone said status = (status ≡ NoMemory) ⊎ ((fault : WordFault) × (said ≡ Err fault) × (status ≡ Usage (usage_of fault)))
