use Rattle.std.proofs.Common.{◌≡◌, length, drop}
use Rattle.sf_reader.specs.Dumps.{first_missing}
use Rattle.sf_reader.proofs.direct.missing_in.Given as goal

abbrev pub invariant-loop-reader : goal.invariant-loop-reader
invariant-loop-reader l = first_missing (length l.movie.movie.tracks) l.reader (drop l.reader l.plans) ≡ first_missing (length l.movie.movie.tracks) 0 l.plans
