use Rattle.std.proofs.Common.{◌≡◌, ℕ, List, [], ◌∷◌, ◌++◌, length, refl, sym, ap, subst, ◌∙◌, append_assoc, length-append, arith}
use Rattle.std.specs.List.{AllByRecursion}
use Rattle.std.specs.Vec.Iter.{into_iter_items}
use Rattle.sf_world.specs.Contents.{BeginsEmpty}
use Rattle.sf_reader.specs.inner.Reading.{EndsWithin}
use Rattle.sf_reader.specs.declared.direct.Reader.{Reader}
use Rattle.sf_reader.proofs.ReaderLemmas.{ran_none, ran_over, read_blamed, write_blamed}
use Rattle.sf_reader.proofs.direct.run_readers.Goals as goal

pub loop-reader-init : goal.loop-reader-init
loop-reader-init g c =
    let gives = c.into_iter-reader-iterator.ensures.into_iter_gives in
    let long = ap length gives.0 in
    record {
      items = sym gives.0;
      left = omega (arith, gives.1, long, c.args.readers.ok.0);
      count = refl;
      empty = subst (λ (rs : List (Reader g.row.O-Out.Denot)). AllByRecursion (λ (r : Reader g.row.O-Out.Denot). BeginsEmpty (g.O.Shelf.seen c.args.shelf.now).files (g.O.Out.Sink.seen r.sink).content) rs) (sym gives.0) c.requires.empty;
      ran = λ file e. ran_none (g.O.Shelf.seen c.args.shelf.now) c.args.lengths.now c.requires.lengths;
      names = refl;
      read = λ e. absurd (cc e);
      write = λ e. absurd (cc e);
      later = omega arith;
      source = record { content = refl; size = refl; later = omega arith };
    }

pub run_reader-read-requires-after_bounds : goal.run_reader-read-requires-after_bounds
run_reader-read-requires-after_bounds g c κs within = subst (λ (n : ℕ). EndsWithin n c.args.movie.now) (sym c.loop-reader.invariant.source.size) c.requires.within

pub loop-reader-preserved : goal.loop-reader-preserved
loop-reader-preserved g c =
    let at = c.loop-reader in
    let i = at.invariant in
    let x = c.in-Some.reader in
    let steps : into_iter_items at.reader-iterator ≡ x ∷ into_iter_items c.next.new.self = c.in-Some.ensures.steps.0 in
    let gone = c.in-Some.ensures.steps.1 in
    let short = ap length steps in
    let rest = subst (λ (rs : List (Reader g.row.O-Out.Denot)). AllByRecursion (λ (r : Reader g.row.O-Out.Denot). BeginsEmpty (g.O.Shelf.seen c.args.shelf.now).files (g.O.Out.Sink.seen r.sink).content) rs) steps i.empty in
    let r = c.run_reader-read.ensures in
    record {
      items = i.items ∙ ap (λ (rs : List (Reader g.row.O-Out.Denot)). at.yielded ++ rs) steps ∙ sym (append_assoc at.yielded (x ∷ []) (into_iter_items c.next.new.self));
      left = omega (arith, i.left, gone, short);
      count = omega (arith, i.count, length-append at.yielded (x ∷ []));
      empty = rest.1;
      ran = λ file e.
          ran_over (λ (r : Reader g.row.O-Out.Denot). r.plan) file c.args.movie.now at.yielded x c.run_reader-read.result at.number at.lengths c.answer_of.new.lengths at.outcome c.answer_of.result c.first_fault-outcome.result
          (g.O.Out.Sink.seen x.sink).content (g.O.Shelf.seen c.args.shelf.now) (g.O.Shelf.seen at.shelf) (g.O.Shelf.seen c.run_reader-read.new.shelf) (i.ran file e) (r.kept file (i.source.content ∙ e)) rest.0 i.count
          c.answer_of.ensures c.first_fault-outcome.ensures;
      names = r.names ∙ i.names;
      read = read_blamed at.number c.run_reader-read.result at.lengths c.answer_of.new.lengths at.outcome c.answer_of.result c.first_fault-outcome.result _ _ _ c.first_fault-outcome.ensures c.answer_of.ensures i.read r.read
          i.source.later r.source.later;
      write = write_blamed at.number c.run_reader-read.result at.lengths c.answer_of.new.lengths at.outcome c.answer_of.result c.first_fault-outcome.result _ _ _ c.first_fault-outcome.ensures c.answer_of.ensures i.write r.write
          i.later r.later;
      later = omega (arith, i.later, r.later);
      source = record { content = r.source.content ∙ i.source.content; size = r.source.size ∙ i.source.size; later = omega (arith, i.source.later, r.source.later) };
    }
