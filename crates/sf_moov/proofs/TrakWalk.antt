-- The headers of tracks that are told one after the other.
use Rattle.std.proofs.Common.{List, ◌++◌, Option}
use Rattle.sf_meaning.specs.declared.faults.HeadFault.{HeadFault}
use Rattle.sf_moov.specs.declared.trak_heads.TrakHead.{TrakHead}

-- the headers so far, and those of the others
abbrev pub told_after : List TrakHead → List TrakHead × Option HeadFault → List TrakHead × Option HeadFault
told_after front told = (front ++ told.0, told.1)
