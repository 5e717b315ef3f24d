use Rattle.std.proofs.Common.{◌+◌, ◌∙◌, drop, arith}
use Rattle.sf_extract.specs.inner.Acts.{Starts}
use Rattle.sf_extract.proofs.EndLemmas.{on_err}
use Rattle.sf_extract.proofs.RunLemmas.{carry_on, goes_nowhere, held_on, held_reads, starts_on}
use Rattle.sf_extract.proofs.plan_run.carry_out.Goals as goal

pub loop-n-init : goal.loop-n-init
loop-n-init c = (omega arith, goes_nowhere c.args.out.now (record { at = c.args.extractor.now; left = drop c.args.from c.args.plan.now }))

pub loop-n-preserved : goal.loop-n-preserved
loop-n-preserved c = (
  omega (arith, c.len.ensures),
  carry_on c.args.out.now c.loop-n.out c.act.new.out (record { at = c.args.extractor.now; left = drop c.args.from c.args.plan.now }) c.loop-n.extractor c.act.new.extractor
      c.command.result (drop c.loop-n.n c.args.plan.now) (drop (c.loop-n.n + 1) c.args.plan.now) c.loop-n.invariant.1 c.command.ensures.at (c.in_ok-done.ensures.done c.if-not-done.false),
)

pub returns-then-not-done-clause-done : goal.returns-then-not-done-clause-done
returns-then-not-done-clause-done c =
    held_on c.args.out.now c.loop-n.out c.act.new.out (record { at = c.args.extractor.now; left = drop c.args.from c.args.plan.now }) c.loop-n.extractor c.act.new.extractor
    c.command.result (drop c.loop-n.n c.args.plan.now) c.loop-n.invariant.1 (c.in_ok-done.ensures.held c.if-not-done.true)

pub returns-then-not-done-clause-reads : goal.returns-then-not-done-clause-reads
returns-then-not-done-clause-reads c = λ _.
    held_reads c.loop-n.out c.act.new.out c.loop-n.extractor c.act.new.extractor c.command.result (drop c.loop-n.n c.args.plan.now) (drop (c.loop-n.n + 1) c.args.plan.now)
    c.command.ensures.at (c.in_ok-done.ensures.held c.if-not-done.true)

pub returns-in_err-done-clause-err : goal.returns-in_err-done-clause-err
returns-in_err-done-clause-err c = on_err c.from_residual.result (Starts c.args.out.now c.act.new.out) (starts_on c.args.out.now c.loop-n.out c.act.new.out c.loop-n.invariant.1.out c.in_err-done.ensures.err)

pub returns-in_err-done-clause-loaded : goal.returns-in_err-done-clause-loaded
returns-in_err-done-clause-loaded c = c.act.ensures.loaded ∙ c.loop-n.invariant.1.loaded

pub returns-then-not-done-clause-loaded : goal.returns-then-not-done-clause-loaded
returns-then-not-done-clause-loaded c = c.act.ensures.loaded ∙ c.loop-n.invariant.1.loaded
