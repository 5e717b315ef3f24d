use Rattle.std.proofs.Common.{map}
use Rattle.sf_record.proofs.Called.{ends_called}
use Rattle.sf_record.proofs.Finishing.{none_made}
use Rattle.sf_record.proofs.Stopped.{same_back}
use Rattle.sf_record.proofs.serial.record_serial.Goals as goal

pub returns-in-Err-clause-back : goal.returns-in-Err-clause-back
returns-in-Err-clause-back g c = same_back (map (λ s. g.S.Source.seen s) c.args.sources.items)

pub returns-in-Err-clause-kept : goal.returns-in-Err-clause-kept
returns-in-Err-clause-kept g c = none_made c.args.limits.stem (g.O.Shelf.seen c.args.shelf.now)

pub returns-in-Ok-clause-called : goal.returns-in-Ok-clause-called
returns-in-Ok-clause-called g c inputs told not = ends_called c.record_within.result.outcome inputs c.record_within.ensures.ends told not
