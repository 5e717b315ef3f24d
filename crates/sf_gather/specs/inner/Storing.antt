-- Refusals of units, as refusals of a sample.
use Rattle.sf_avc.specs.declared.nal.NalFault.{NalFault}
use Rattle.sf_avc.specs.declared.nal.NalFault.TheVariants.{NoStart, EmptyUnit, NoMemory as NoRoom}
use Rattle.sf_gather.specs.declared.accepting.SampleFault.{SampleFault}
use Rattle.sf_gather.specs.declared.accepting.SampleFault.TheVariants.{Nal, NoMemory}

-- a refusal of units, as one of a sample
abbrev pub units_fault : NalFault → SampleFault
units_fault NoStart = Nal NoStart
units_fault (EmptyUnit at) = Nal (EmptyUnit at)
units_fault NoRoom = NoMemory
