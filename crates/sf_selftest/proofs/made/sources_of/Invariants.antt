use Rattle.std.proofs.Common.{◌≡◌, ◌++◌, List, ℕ, length, map}
use Rattle.std.specs.Vec.Iter.{into_iter_items, into_iter_len}
use Rattle.sf_world.specs.Views.{told_source}
use Rattle.sf_world.specs.declared.sure.SureSource.{SureSource}
use Rattle.sf_selftest.proofs.made.sources_of.Given as goal

abbrev pub invariant-loop-input : goal.invariant-loop-input
invariant-loop-input l = record {
  left : l.yielded ++ into_iter_items l.input-iterator ≡ into_iter_items l.initial.input-iterator;
  len : into_iter_len l.input-iterator ≡ length (into_iter_items l.input-iterator);
  sources : map (λ (s : SureSource). told_source s.contents 0) l.sources.items ≡ map (λ (bytes : List ℕ). told_source bytes 0) l.yielded;
}
