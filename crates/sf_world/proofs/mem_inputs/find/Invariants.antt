-- No pair before the index has the name.
use Rattle.std.proofs.Common.{◌≡◌, drop}
use Rattle.sf_world.specs.Named.{named_bytes}
use Rattle.sf_world.proofs.mem_inputs.find.Given as goal

abbrev pub invariant-loop-pair : goal.invariant-loop-pair
invariant-loop-pair l = named_bytes (drop l.pair-index l.named) l.name ≡ named_bytes l.named l.name
