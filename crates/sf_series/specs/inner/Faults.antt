-- The faults of what stands below a series, as its own.
use Rattle.sf_world.specs.declared.failures.Denied.{Denied}
use Rattle.sf_world.specs.declared.failures.Denied.TheVariants as denials
use Rattle.sf_file.specs.declared.faults.FileFault.{FileFault}
use Rattle.sf_file.specs.declared.faults.FileFault.TheVariants as faults
use Rattle.sf_series.specs.declared.faults.SeriesFault.{SeriesFault}
use Rattle.sf_series.specs.declared.faults.SeriesFault.TheVariants.{WriteFault, NoMemory}

abbrev pub of_file : FileFault → SeriesFault
of_file faults.WriteFault = WriteFault
of_file faults.NoMemory = NoMemory

abbrev pub of_denied : Denied → SeriesFault
of_denied denials.Failed = WriteFault
of_denied denials.NoMemory = NoMemory
