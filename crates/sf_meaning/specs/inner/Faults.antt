-- Faults of a part of a movie as faults of the movie, where want of memory stays what it is.
use Rattle.sf_entry.specs.declared.types.EntryFault.{EntryFault}
use Rattle.sf_entry.specs.declared.types.EntryFault.TheVariants as entries
use Rattle.sf_meaning.specs.declared.faults.HeadFault.{HeadFault}
use Rattle.sf_meaning.specs.declared.faults.HeadFault.TheVariants as heads
use Rattle.sf_meaning.specs.declared.faults.TableFault.{TableFault}
use Rattle.sf_meaning.specs.declared.faults.TableFault.TheVariants as tables
use Rattle.sf_meaning.specs.declared.faults.MovieFault.{MovieFault}
use Rattle.sf_meaning.specs.declared.faults.MovieFault.TheVariants as movies

abbrev pub of_head : HeadFault → MovieFault
of_head heads.NoMemory = movies.NoMemory
of_head fault = movies.Head fault

abbrev pub of_table : TableFault → MovieFault
of_table tables.NoMemory = movies.NoMemory
of_table fault = movies.Table fault

abbrev pub of_entry : EntryFault → MovieFault
of_entry entries.NoMemory = movies.NoMemory
of_entry fault = movies.Entry fault
