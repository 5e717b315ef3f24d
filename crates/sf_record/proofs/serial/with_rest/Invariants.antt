use Rattle.std.proofs.Common.{◌≡◌, ◌+◌, ◌++◌, length}
use Rattle.std.specs.Prelude.{vec_capacity, vec_len}
use Rattle.std.specs.Vec.Iter.{into_iter_items, into_iter_len}
use Rattle.sf_record.proofs.serial.with_rest.Given as goal

abbrev pub invariant-loop-source : goal.invariant-loop-source
invariant-loop-source g l =
    record {
      left : l.yielded ++ into_iter_items l.source-iterator ≡ into_iter_items l.initial.source-iterator;
      len : into_iter_len l.source-iterator ≡ length (into_iter_items l.source-iterator);
      items : l.sources.items ≡ l.initial.sources.items ++ l.yielded;
      room : vec_len l.sources ≡ vec_len l.initial.sources + length l.yielded;
      capacity : vec_capacity l.sources ≡ vec_capacity l.initial.sources;
    }
