use Rattle.std.proofs.Common.{Bool, Ok, subst}
use Rattle.sf_extract.specs.Runs.{rest_of}
use Rattle.sf_reader.specs.inner.Reading.{ReadOn}
use Rattle.sf_reader.proofs.DumpLemmas.{turned_failed, waits_fault, waits_on, waits_written, written_fault, written_part, written_whole}
use Rattle.sf_reader.proofs.dump.read_turn.Goals as goal

pub returns-in_err-write_out-in-Ok-true-clause-turned : goal.returns-in_err-write_out-in-Ok-true-clause-turned
returns-in_err-write_out-in-Ok-true-clause-turned g c = λ file e r begun w.
    let x = (waits_on r (rest_of file c.args.run.now) (rest_of file c.read_next.new.run) begun c.args.buffers.now.out c.read_next.new.buffers.out c.args.written.now (g.O.Sink.seen c.args.sink.now) w (subst (λ (b : Bool). ReadOn file c.args.buffers.now.out c.read_next.new.buffers.out c.args.run.now c.read_next.new.run (Ok b)) c.in-Ok-true.field-0-test (c.in-Ok-true.ensures.next file e))) in
    turned_failed file r begun c.from_residual.result c.in_err-write_out-in-Ok-true.field-0.0 c.write_out.new.out c.write_out.new.written c.read_next.new.run (g.O.Sink.seen c.write_out.new.sink) c.from_residual.ensures.1 c.in_err-write_out-in-Ok-true.ensures.fault
    (written_part r (rest_of file c.read_next.new.run) begun c.read_next.new.buffers.out c.args.written.now (g.O.Sink.seen c.args.sink.now) (g.O.Sink.seen c.write_out.new.sink) x c.in_err-write_out-in-Ok-true.ensures.part)

pub returns-in_err-write_out-in-Ok-false-clause-turned : goal.returns-in_err-write_out-in-Ok-false-clause-turned
returns-in_err-write_out-in-Ok-false-clause-turned g c = λ file e r begun w.
    let k = (subst (λ (b : Bool). ReadOn file c.args.buffers.now.out c.read_next.new.buffers.out c.args.run.now c.read_next.new.run (Ok b)) c.in-Ok-false.field-0-test (c.in-Ok-false.ensures.next file e)) in
    let x = (waits_on r (rest_of file c.args.run.now) (rest_of file c.read_next.new.run) begun c.args.buffers.now.out c.read_next.new.buffers.out c.args.written.now (g.O.Sink.seen c.args.sink.now) w k.1) in
    turned_failed file r begun c.from_residual-in_err-write_out-in-Ok-false.result c.in_err-write_out-in-Ok-false.field-0.0 c.write_out-in-Ok-false.new.out c.write_out-in-Ok-false.new.written c.read_next.new.run (g.O.Sink.seen c.write_out-in-Ok-false.new.sink) c.from_residual-in_err-write_out-in-Ok-false.ensures.1 c.in_err-write_out-in-Ok-false.ensures.fault
    (written_part r (rest_of file c.read_next.new.run) begun c.read_next.new.buffers.out c.args.written.now (g.O.Sink.seen c.args.sink.now) (g.O.Sink.seen c.write_out-in-Ok-false.new.sink) x c.in_err-write_out-in-Ok-false.ensures.part)

pub returns-in_err-write_out-in-Err-clause-turned : goal.returns-in_err-write_out-in-Err-clause-turned
returns-in_err-write_out-in-Err-clause-turned g c = λ file e r begun w.
    let s = waits_fault r file c.args.run.now c.read_next.new.run begun c.args.buffers.now.out c.read_next.new.buffers.out c.args.written.now (g.O.Sink.seen c.args.sink.now) c.in-Err.fault w (c.in-Err.ensures.next file e) in
    let x = s.1 in
    turned_failed file r begun c.from_residual-in_err-write_out-in-Err.result c.in_err-write_out-in-Err.field-0.0 c.write_out-in-Err.new.out c.write_out-in-Err.new.written c.read_next.new.run (g.O.Sink.seen c.write_out-in-Err.new.sink) c.from_residual-in_err-write_out-in-Err.ensures.1 c.in_err-write_out-in-Err.ensures.fault
    (written_part r s.0 begun c.read_next.new.buffers.out c.args.written.now (g.O.Sink.seen c.args.sink.now) (g.O.Sink.seen c.write_out-in-Err.new.sink) x c.in_err-write_out-in-Err.ensures.part)

pub returns-in_ok-write_out-in-Ok-true-clause-turned : goal.returns-in_ok-write_out-in-Ok-true-clause-turned
returns-in_ok-write_out-in-Ok-true-clause-turned g c = λ file e r begun w.
    let a = c.in_ok-write_out-in-Ok-true.ensures in
    let x = (waits_on r (rest_of file c.args.run.now) (rest_of file c.read_next.new.run) begun c.args.buffers.now.out c.read_next.new.buffers.out c.args.written.now (g.O.Sink.seen c.args.sink.now) w (subst (λ (b : Bool). ReadOn file c.args.buffers.now.out c.read_next.new.buffers.out c.args.run.now c.read_next.new.run (Ok b)) c.in-Ok-true.field-0-test (c.in-Ok-true.ensures.next file e))) in
    waits_written r (rest_of file c.read_next.new.run) begun c.read_next.new.buffers.out c.write_out.new.out c.args.written.now c.write_out.new.written (g.O.Sink.seen c.args.sink.now) (g.O.Sink.seen c.write_out.new.sink) x a.gained a.count a.empty

pub returns-in_ok-write_out-in-Ok-false-clause-turned : goal.returns-in_ok-write_out-in-Ok-false-clause-turned
returns-in_ok-write_out-in-Ok-false-clause-turned g c = λ file e r begun w.
    let a = c.in_ok-write_out-in-Ok-false.ensures in
    let k = (subst (λ (b : Bool). ReadOn file c.args.buffers.now.out c.read_next.new.buffers.out c.args.run.now c.read_next.new.run (Ok b)) c.in-Ok-false.field-0-test (c.in-Ok-false.ensures.next file e)) in
    let x = (waits_on r (rest_of file c.args.run.now) (rest_of file c.read_next.new.run) begun c.args.buffers.now.out c.read_next.new.buffers.out c.args.written.now (g.O.Sink.seen c.args.sink.now) w k.1) in
    written_whole r file c.read_next.new.run begun c.write_out-in-Ok-false.new.out c.write_out-in-Ok-false.new.written (g.O.Sink.seen c.write_out-in-Ok-false.new.sink) k.0 a.empty
    (waits_written r (rest_of file c.read_next.new.run) begun c.read_next.new.buffers.out c.write_out-in-Ok-false.new.out c.args.written.now c.write_out-in-Ok-false.new.written (g.O.Sink.seen c.args.sink.now) (g.O.Sink.seen c.write_out-in-Ok-false.new.sink) x a.gained a.count a.empty)

pub returns-in_ok-write_out-in-Err-clause-turned : goal.returns-in_ok-write_out-in-Err-clause-turned
returns-in_ok-write_out-in-Err-clause-turned g c = λ file e r begun w.
    let a = c.in_ok-write_out-in-Err.ensures in
    written_fault r file c.args.run.now c.read_next.new.run begun c.args.buffers.now.out c.read_next.new.buffers.out c.args.written.now c.write_out-in-Err.new.written (g.O.Sink.seen c.args.sink.now) (g.O.Sink.seen c.write_out-in-Err.new.sink) c.in-Err.fault w (c.in-Err.ensures.next file e) a.gained a.count
