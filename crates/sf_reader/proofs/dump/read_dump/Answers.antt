use Rattle.std.proofs.Common.{Bool, Ok, refl, subst, ◌∙◌, arith}
use Rattle.sf_extract.specs.Runs.{rest_of}
use Rattle.sf_reader.specs.inner.Reading.{Turned}
use Rattle.sf_reader.proofs.DumpLemmas.{dumped_failed, waits_first}
use Rattle.sf_reader.proofs.dump.read_dump.Goals as goal

pub loop-run-init : goal.loop-run-init
loop-run-init g c = record {
  waits = λ file e. waits_first (rest_of file c.args.run) (g.O.Sink.seen c.args.sink.now) _ c.cut.ensures;
  loaded = refl;
  later = omega arith;
  source = record { content = refl; size = refl; later = omega arith };
}

pub loop-run-preserved : goal.loop-run-preserved
loop-run-preserved g c =
    let i = c.loop-run.invariant in
    let t = c.in_ok-read_turn.ensures in
    record {
      waits = λ file e.
          subst (λ (b : Bool). Turned file (rest_of file c.args.run) (g.O.Sink.seen c.args.sink.now) (Ok b) c.read_turn.new.buffers.out c.read_turn.new.written c.read_turn.new.run (g.O.Sink.seen c.read_turn.new.sink)) c.if-branch.true
          (t.turned file (i.source.content ∙ e) (rest_of file c.args.run) (g.O.Sink.seen c.args.sink.now) (i.waits file e));
      loaded = t.loaded ∙ i.loaded;
      later = omega (arith, i.later, t.later);
      source = record { content = t.source.content ∙ i.source.content; size = t.source.size ∙ i.source.size; later = omega (arith, i.source.later, t.source.later) };
    }

pub returns-clause-dumped : goal.returns-clause-dumped
returns-clause-dumped g c = λ file e.
    let i = c.loop-run.invariant in
    subst (λ (b : Bool). Turned file (rest_of file c.args.run) (g.O.Sink.seen c.args.sink.now) (Ok b) c.read_turn.new.buffers.out c.read_turn.new.written c.read_turn.new.run (g.O.Sink.seen c.read_turn.new.sink)) c.if-branch.false
    (c.in_ok-read_turn.ensures.turned file (i.source.content ∙ e) (rest_of file c.args.run) (g.O.Sink.seen c.args.sink.now) (i.waits file e))

pub returns-in_err-read_turn-clause-dumped : goal.returns-in_err-read_turn-clause-dumped
returns-in_err-read_turn-clause-dumped g c = λ file e.
    let i = c.loop-run.invariant in
    dumped_failed (rest_of file c.args.run) (g.O.Sink.seen c.args.sink.now) c.from_residual.result c.in_err-read_turn.field-0.0 (g.O.Sink.seen c.read_turn.new.sink) c.from_residual.ensures.1
    (c.in_err-read_turn.ensures.turned file (i.source.content ∙ e) (rest_of file c.args.run) (g.O.Sink.seen c.args.sink.now) (i.waits file e))
