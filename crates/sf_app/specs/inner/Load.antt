-- The answers of the commands for the faults of the calls below.
use Rattle.sf_app.specs.declared.status.Status.{Status}
use Rattle.sf_app.specs.declared.status.Status.TheVariants as statuses
use Rattle.sf_app.specs.declared.list_text.PutFault.{PutFault}
use Rattle.sf_app.specs.declared.list_text.PutFault.TheVariants as puts
use Rattle.sf_app.specs.declared.movie.ListFault.{ListFault}
use Rattle.sf_app.specs.declared.movie.ListFault.TheVariants as lists
use Rattle.sf_movie.specs.declared.load.LoadFault.{LoadFault}
use Rattle.sf_movie.specs.declared.load.LoadFault.TheVariants.{Refused, ReadFault, NoMemory}

-- the fault of a list for one of reading the movie
abbrev pub listed_fault : LoadFault → ListFault
listed_fault (Refused fault) = lists.Refused fault
listed_fault ReadFault = lists.ReadFault
listed_fault NoMemory = lists.NoMemory

-- the fault of a list for one of putting it into a text
abbrev pub put_fault : PutFault → ListFault
put_fault puts.WriteFault = lists.WriteFault
put_fault puts.NoMemory = lists.NoMemory
put_fault puts.NoMemoryWithin = lists.NoMemory

-- the answer of the program where a movie wasn't read
abbrev pub read_status : LoadFault → Status
read_status (Refused fault) = statuses.MovieRefused fault
read_status ReadFault = statuses.ReadFault 0
read_status NoMemory = statuses.NoMemory
