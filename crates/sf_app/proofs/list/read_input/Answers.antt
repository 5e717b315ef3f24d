use Rattle.sf_app.proofs.Performing.{reads_by}
use Rattle.sf_app.proofs.list.read_input.Goals as goal

pub returns-in-Err-clause-reads : goal.returns-in-Err-clause-reads
returns-in-Err-clause-reads g c =
    let reads = reads_by c.args.name.now c.in-Err.fault (g.I.Src.Source.seen c.in-Ok.source) (g.I.Src.Source.seen c.load-loaded.new.source)
    (g.I.Inputs.seen c.args.inputs.now) (g.I.Inputs.seen c.fetch.new.self) (g.I.Inputs.seen c.give_back.new.self)
    (record { given = c.in-Ok.ensures.source; gave = c.in-Ok.ensures.ok; kept = c.fetch.ensures.faults; takes = c.give_back.ensures })
    c.in-Err.ensures.reads c.in-Err.ensures.source.cause in
    rw c.status_of.ensures reads
