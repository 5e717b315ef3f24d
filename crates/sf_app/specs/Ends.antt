-- How the program ends, by what its words ask for.
use Rattle.std.specs.Prelude.{◌≡◌, Result, Ok, Err}
use Rattle.sf_words.specs.declared.command.Command.{Command}
use Rattle.sf_words.specs.declared.command.Command.TheVariants.{Record, Extract, List as Listing, Make}
use Rattle.sf_words.specs.declared.faults.UsageFault.{UsageFault as WordFault}
use Rattle.sf_words.specs.declared.faults.UsageFault.TheVariants as words
use Rattle.sf_app.specs.ExtractEnds.{ExtractEnds}
use Rattle.sf_app.specs.ListEnds.{ListEnds}
use Rattle.sf_app.specs.MakeEnds.{MakeEnds}
use Rattle.sf_app.specs.Outside.{Outside}
use Rattle.sf_app.specs.RecordEnds.{RecordEnds}
use Rattle.sf_app.specs.Refused.{WordsRefused}
use Rattle.sf_app.specs.declared.status.Status.{Status}
use Rattle.sf_app.specs.declared.status.UsageFault.{UsageFault}
use Rattle.sf_app.specs.declared.status.UsageFault.TheVariants as usage

-- what is wrong with words, as the program tells it
abbrev pub usage_of : WordFault → UsageFault
usage_of words.Command = usage.Command
usage_of words.Words = usage.Words

-- what stands after the command that the words ask for: inputs were recorded, or plans extracted, or a movie listed, which leaves the shelf as it was, or one made in memory, which touches neither inputs nor shelf; wrong words are refused so, and then only the text is touched
abbrev pub Ends : Result Command WordFault → Status → Outside → Outside → Type 0
Ends (Err fault) result b a = WordsRefused (usage_of fault) result b a
Ends (Ok (Record asked)) result b a = RecordEnds asked result b a
Ends (Ok (Extract asked)) result b a = ExtractEnds asked result b a
Ends (Ok (Listing name)) result b a = ListEnds name result b a × (a.shelf ≡ b.shelf)
Ends (Ok (Make asked)) result b a = MakeEnds asked.count asked.tracks result b a
