-- What is asked is within its ranges.
use Rattle.std.specs.Prelude.{◌≤◌, ◌^◌, ⊤, length}
use Rattle.sf_words.specs.declared.command.Command.{Command}
use Rattle.sf_words.specs.declared.command.Command.TheVariants.{Record, Extract, List as Listing, Make}
use Rattle.sf_words.specs.declared.command.MakeAsked.{MakeAsked}
use Rattle.sf_words.specs.declared.command.RecordAsked.{RecordAsked}
use Rattle.sf_words.specs.declared.command.RecordNumbers.{RecordNumbers}

-- The numbers of a recording are within their ranges.
pub record AreInRange (numbers : RecordNumbers) : Type 0 where
  pub start : numbers.start_us ≤ 2 ^ 48
  pub interleave : numbers.interleave_us ≤ 2 ^ 48
  pub bytes : numbers.max_bytes ≤ 2 ^ 62
  pub duration : numbers.max_duration_us ≤ 2 ^ 48
  pub some : 1 ≤ numbers.max_files
  pub few : numbers.max_files ≤ 99999

-- There are 1 to 16 inputs, and the numbers are within their ranges.
pub record IsRecordable (asked : RecordAsked) : Type 0 where
  pub some : 1 ≤ length asked.inputs
  pub few : length asked.inputs ≤ 16
  pub numbers : AreInRange asked.numbers

-- There are 0 to 200,000 samples of each of 1 to 8 tracks.
pub record IsMakable (asked : MakeAsked) : Type 0 where
  pub samples : asked.count ≤ 200000
  pub least : 1 ≤ asked.tracks
  pub most : asked.tracks ≤ 8

-- what is asked is within its ranges: of a recording as above, of an extraction 1 to 16 plans, and of a movie that is made as above
abbrev pub IsInRange : Command → Type 0
IsInRange (Record asked) = IsRecordable asked
IsInRange (Extract asked) = (1 ≤ length asked.plans) × (length asked.plans ≤ 16)
IsInRange (Listing name) = ⊤
IsInRange (Make asked) = IsMakable asked
