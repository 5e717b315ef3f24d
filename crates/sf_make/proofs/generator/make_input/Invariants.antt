use Rattle.std.proofs.Common.{◌≡◌, ◌++◌}
use Rattle.std.specs.List.{flat_map}
use Rattle.sf_make.specs.Writing.{header_bytes, record_bytes}
use Rattle.sf_make.specs.Generator.{generated_setup, generated_samples}
use Rattle.sf_make.proofs.generator.make_input.Given as goal

abbrev pub invariant-loop-i : goal.invariant-loop-i
invariant-loop-i l = l.out ≡ header_bytes (generated_setup l.kind) ++ flat_map record_bytes (generated_samples l.kind l.i)
