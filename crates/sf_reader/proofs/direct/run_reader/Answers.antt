use Rattle.sf_extract.specs.Current.{unmoved}
use Rattle.sf_extract.specs.Readout.{read_out}
use Rattle.sf_reader.proofs.ReaderLemmas.{kept_one}
use Rattle.sf_reader.proofs.direct.run_reader.Goals as goal

pub returns-clause-kept : goal.returns-clause-kept
returns-clause-kept g c = λ file e.
    kept_one (read_out file c.args.reader.plan (unmoved c.args.movie.now)) c.read_into-read.result (g.O.Out.Sink.seen c.args.reader.sink) (g.O.Out.Sink.seen c.read_into-read.new.sink)
    (g.O.Shelf.seen c.args.shelf.now) (g.O.Shelf.seen c.keep.new.self) (c.read_into-read.ensures.dumped file e) c.keep.ensures.kept
