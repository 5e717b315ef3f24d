use Rattle.std.proofs.Common.{◌≡◌, ◌+◌, ◌≤◌, ◌++◌, length, map}
use Rattle.std.specs.List.{AllByRecursion}
use Rattle.std.specs.Vec.{vec_capacity, vec_len}
use Rattle.std.specs.Vec.Iter.{into_iter_items, into_iter_len}
use Rattle.sf_world.specs.Contents.{BeginsEmpty}
use Rattle.sf_reader.specs.Dumps.{dump_names}
use Rattle.sf_reader.proofs.direct.make_readers.Given as goal

abbrev pub invariant-loop-plan : goal.invariant-loop-plan
invariant-loop-plan g l =
    record {
      plans : l.fn.plans.items ≡ map (λ r. r.plan) l.readers.items ++ into_iter_items l.plan-iterator;
      left : into_iter_len l.plan-iterator ≡ length (into_iter_items l.plan-iterator);
      empty : AllByRecursion (λ r. BeginsEmpty (g.O.Shelf.seen l.fn.shelf).files (g.O.Out.Sink.seen r.sink).content) l.readers.items;
      names : (g.O.Shelf.seen l.shelf).names ≡ (g.O.Shelf.seen l.fn.shelf).names ++ dump_names l.stem (length l.readers.items);
      files : (g.O.Shelf.seen l.shelf).files ≡ (g.O.Shelf.seen l.fn.shelf).files;
      room : vec_len l.readers + length (into_iter_items l.plan-iterator) ≤ vec_capacity l.readers;
      few : vec_len l.readers + length (into_iter_items l.plan-iterator) ≤ 16;
      later : (g.O.Shelf.seen l.fn.shelf).faults ≤ (g.O.Shelf.seen l.shelf).faults;
    }
