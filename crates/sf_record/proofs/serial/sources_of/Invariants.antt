use Rattle.std.proofs.Common.{◌≡◌, ◌+◌, ◌++◌, length, map}
use Rattle.std.specs.Prelude.{vec_capacity, vec_len}
use Rattle.std.specs.Vec.Iter.{into_iter_items, into_iter_len}
use Rattle.sf_record.proofs.serial.sources_of.Given as goal

abbrev pub invariant-loop-pump : goal.invariant-loop-pump
invariant-loop-pump g l =
    record {
      left : l.yielded ++ into_iter_items l.pump-iterator ≡ into_iter_items l.initial.pump-iterator;
      len : into_iter_len l.pump-iterator ≡ length (into_iter_items l.pump-iterator);
      sources : map (λ s. g.S.Source.seen s) l.sources.items ≡ map (λ s. g.S.Source.seen s) l.initial.sources.items ++ map (λ p. p.coded.source) l.yielded;
      room : vec_len l.sources ≡ vec_len l.initial.sources + length l.yielded;
      capacity : vec_capacity l.sources ≡ vec_capacity l.initial.sources;
    }
