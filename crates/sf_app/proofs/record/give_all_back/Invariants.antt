use Rattle.std.proofs.Common.{◌≡◌, ◌++◌, length, map}
use Rattle.std.specs.Vec.Iter.{into_iter_items, into_iter_len}
use Rattle.sf_app.specs.inner.Fetching.{TakesAllBack}
use Rattle.sf_app.proofs.record.give_all_back.Given as goal

abbrev pub invariant-loop-source : goal.invariant-loop-source
invariant-loop-source g l =
    record {
      left : l.yielded ++ into_iter_items l.source-iterator ≡ into_iter_items l.initial.source-iterator;
      len : into_iter_len l.source-iterator ≡ length (into_iter_items l.source-iterator);
      taken : TakesAllBack (map (λ s. (g.I.Src.Source.seen s).faults) l.yielded) (g.I.Inputs.seen l.fn.inputs) (g.I.Inputs.seen l.inputs);
    }
