use Rattle.std.proofs.Common.{◌≡◌, ◌≤◌, ◌++◌, length, map}
use Rattle.std.specs.List.{AllByRecursion}
use Rattle.std.specs.Vec.Iter.{into_iter_items, into_iter_len}
use Rattle.sf_world.specs.Contents.{BeginsEmpty}
use Rattle.sf_world.specs.Counts.{Rose}
use Rattle.sf_world.specs.Views.{Unchanged}
use Rattle.sf_movie.specs.Loads.{OfTold}
use Rattle.sf_reader.specs.Dumps.{readouts}
use Rattle.sf_reader.specs.inner.Readers.{Ran}
use Rattle.sf_reader.specs.declared.outcome.ExtractOutcome.TheVariants.{ReadFault, WriteFault}
use Rattle.sf_reader.proofs.direct.run_readers.Given as goal

abbrev pub invariant-loop-reader : goal.invariant-loop-reader
invariant-loop-reader g l =
    record {
      items : l.fn.readers.items ≡ l.yielded ++ into_iter_items l.reader-iterator;
      left : into_iter_len l.reader-iterator ≡ length (into_iter_items l.reader-iterator);
      count : l.number ≡ length l.yielded;
      empty : AllByRecursion (λ r. BeginsEmpty (g.O.Shelf.seen l.fn.shelf).files (g.O.Out.Sink.seen r.sink).content) (into_iter_items l.reader-iterator);
      ran : OfTold (g.S.Source.seen l.fn.source).content
          (λ file. Ran (readouts file l.movie (map (λ r. r.plan) l.yielded)) l.outcome l.lengths (g.O.Shelf.seen l.fn.shelf) (g.O.Shelf.seen l.shelf));
      names : (g.O.Shelf.seen l.shelf).names ≡ (g.O.Shelf.seen l.fn.shelf).names;
      read : l.outcome ≡ ReadFault → Rose (g.S.Source.seen l.fn.source).faults (g.S.Source.seen l.source).faults;
      write : l.outcome ≡ WriteFault → Rose (g.O.Shelf.seen l.fn.shelf).faults (g.O.Shelf.seen l.shelf).faults;
      later : (g.O.Shelf.seen l.fn.shelf).faults ≤ (g.O.Shelf.seen l.shelf).faults;
      source : Unchanged (g.S.Source.seen l.fn.source) (g.S.Source.seen l.source);
    }
