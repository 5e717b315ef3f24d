use Rattle.std.proofs.Common.{List, length, map, sym, subst}
use Rattle.std.proofs.lemmas.List.{map-append}
use Rattle.sf_extract.specs.Current.{unmoved}
use Rattle.sf_extract.specs.Readout.{Readout, read_out}
use Rattle.sf_extract.specs.declared.plan.Command.{Command}
use Rattle.sf_reader.specs.Dumps.{readouts}
use Rattle.sf_reader.specs.inner.Readers.{PlansEnd, answer_of}
use Rattle.sf_reader.specs.declared.direct.Reader.{Reader}
use Rattle.sf_reader.specs.declared.outcome.ExtractOutcome.{ExtractOutcome}
use Rattle.sf_reader.proofs.ReaderLemmas.{counted, plans_cut, plans_end}
use Rattle.sf_reader.proofs.direct.extract_plans.Goals as goal

pub returns-in-Ok-clause-ends : goal.returns-in-Ok-clause-ends
returns-in-Ok-clause-ends g c = λ file e.
    let m = c.in-Ok.ensures in
    let q = c.run_readers-ran.ensures in
    let rs = c.make_readers-made.new.readers.items in
    subst (λ (ps : List (List Command)). PlansEnd (readouts file c.args.movie.now ps) c.args.stem.now c.run_readers-ran.result c.run_readers-ran.new.lengths (g.O.Shelf.seen c.args.shelf.now) (g.O.Shelf.seen c.run_readers-ran.new.shelf))
    (sym m.all)
    (plans_end c.args.stem.now (readouts file c.args.movie.now (map (λ (r : Reader g.row.O-Out.Denot). r.plan) rs)) (length rs) c.run_readers-ran.result c.run_readers-ran.new.lengths (g.O.Shelf.seen c.args.shelf.now)
    (g.O.Shelf.seen c.make_readers-made.new.shelf) (g.O.Shelf.seen c.run_readers-ran.new.shelf) m.names m.files q.names (counted (λ (r : Reader g.row.O-Out.Denot). r.plan) file c.args.movie.now rs) (q.ran file e))

pub returns-in-Err-clause-ends : goal.returns-in-Err-clause-ends
returns-in-Err-clause-ends g c = λ file e.
    let m = c.in-Err.ensures in
    let q = c.run_readers-ran.ensures in
    let rs = c.make_readers-made.new.readers.items in
    let first = map (λ (r : Reader g.row.O-Out.Denot). r.plan) rs in
    let more = m.plans.0 in
    subst (λ (o : ExtractOutcome). PlansEnd (readouts file c.args.movie.now c.args.plans.items) c.args.stem.now o c.run_readers-ran.new.lengths (g.O.Shelf.seen c.args.shelf.now) (g.O.Shelf.seen c.run_readers-ran.new.shelf))
    (sym c.answer_to.ensures)
    (subst (λ (ps : List (List Command)). PlansEnd (readouts file c.args.movie.now ps) c.args.stem.now (answer_of 0 c.in-Err.fault) c.run_readers-ran.new.lengths (g.O.Shelf.seen c.args.shelf.now) (g.O.Shelf.seen c.run_readers-ran.new.shelf))
    (sym m.plans.1)
    (subst (λ (xs : List Readout). PlansEnd xs c.args.stem.now (answer_of 0 c.in-Err.fault) c.run_readers-ran.new.lengths (g.O.Shelf.seen c.args.shelf.now) (g.O.Shelf.seen c.run_readers-ran.new.shelf))
    (sym (map-append (λ (p : List Command). read_out file p (unmoved c.args.movie.now)) first more))
    (plans_cut c.args.stem.now (readouts file c.args.movie.now first) (readouts file c.args.movie.now more) (length rs) c.run_readers-ran.result c.in-Err.fault c.run_readers-ran.new.lengths (g.O.Shelf.seen c.args.shelf.now)
    (g.O.Shelf.seen c.make_readers-made.new.shelf) (g.O.Shelf.seen c.run_readers-ran.new.shelf) m.names m.files q.names (counted (λ (r : Reader g.row.O-Out.Denot). r.plan) file c.args.movie.now rs) (q.ran file e) m.fault)))
