-- Which times a seek of a plan can have.
use Rattle.std.specs.Prelude.{◌^◌, ◌<◌}
use Rattle.sf_extract.specs.declared.plan.Command.{Command}
use Rattle.sf_extract.specs.declared.plan.Command.TheVariants.{Select, Unselect, Seek, Read, Advance, ToEnd}

-- the time of a seek is at most 2^63 - 1 microseconds
abbrev pub IsInTime : Command → Type 0
IsInTime (Select t) = Unit {0}
IsInTime (Unselect t) = Unit {0}
IsInTime (Seek mode us) = us < 2 ^ 63
IsInTime Read = Unit {0}
IsInTime Advance = Unit {0}
IsInTime ToEnd = Unit {0}
