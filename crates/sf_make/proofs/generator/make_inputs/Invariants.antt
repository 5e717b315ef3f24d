use Rattle.std.proofs.Common.{◌≡◌}
use Rattle.sf_make.specs.Generator.{generated_inputs}
use Rattle.sf_make.proofs.generator.make_inputs.Given as goal

abbrev pub invariant-loop-track : goal.invariant-loop-track
invariant-loop-track l = l.inputs.items ≡ generated_inputs l.count l.track
