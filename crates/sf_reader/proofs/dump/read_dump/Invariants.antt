use Rattle.std.proofs.Common.{◌≡◌, ◌≤◌}
use Rattle.sf_world.specs.Views.{Unchanged}
use Rattle.sf_movie.specs.Loads.{OfTold}
use Rattle.sf_extract.specs.Runs.{rest_of, weight}
use Rattle.sf_reader.specs.inner.Reading.{Waits}
use Rattle.sf_reader.proofs.dump.read_dump.Given as goal

abbrev pub invariant-loop-run : goal.invariant-loop-run
invariant-loop-run g l =
    record {
      waits : OfTold (g.S.Source.seen l.fn.source).content (λ file. Waits (rest_of file l.fn.run) (rest_of file l.run) (g.O.Sink.seen l.fn.sink) l.buffers.out l.written (g.O.Sink.seen l.sink));
      loaded : l.run.at.loaded ≡ l.fn.run.at.loaded;
      later : (g.O.Sink.seen l.fn.sink).faults ≤ (g.O.Sink.seen l.sink).faults;
      source : Unchanged (g.S.Source.seen l.fn.source) (g.S.Source.seen l.source);
    }

abbrev pub decreases-loop-run : goal.decreases-loop-run
decreases-loop-run g l = weight l.run
