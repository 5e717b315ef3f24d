use Rattle.std.proofs.Common.{◌≡◌, ℕ, ◌+◌, List, [], ◌∷◌, length, Option, sym, ap, subst, ◌∙◌, arith, length-append}
use Rattle.std.specs.List.{AllByRecursion}
use Rattle.std.specs.Vec.Iter.{into_iter_items}
use Rattle.sf_world.specs.Contents.{BeginsEmpty}
use Rattle.sf_reader.specs.declared.direct.Reader.{Reader}
use Rattle.sf_reader.proofs.ReaderLemmas.{all_one_more, moved_one, names_more}
use Rattle.sf_reader.proofs.direct.make_readers.Goals as goal

pub loop-plan-preserved : goal.loop-plan-preserved
loop-plan-preserved g c =
    let at = c.loop-plan in
    let i = at.invariant in
    let x = c.in-Some.plan in
    let steps : into_iter_items at.plan-iterator ≡ x ∷ into_iter_items c.next.new.self = c.in-Some.ensures.steps.0 in
    let gone = c.in-Some.ensures.steps.1 in
    let short = ap length steps in
    let m = c.in_ok-reader.ensures in
    let p = c.push_reserved.ensures in
    let r = c.in_ok-reader.reader in
    let longer = ap length p.items in
    record {
      plans = moved_one (λ (r : Reader g.row.O-Out.Denot). r.plan) c.args.plans.items at.readers.items c.push_reserved.new.self.items r x (into_iter_items at.plan-iterator) (into_iter_items c.next.new.self) i.plans steps m.plan p.items;
      left = omega (arith, i.left, gone, short);
      empty = subst (λ (rs : List (Reader g.row.O-Out.Denot)). AllByRecursion (λ (r : Reader g.row.O-Out.Denot). BeginsEmpty (g.O.Shelf.seen c.args.shelf.now).files (g.O.Out.Sink.seen r.sink).content) rs) (sym p.items)
          (all_one_more (λ (r : Reader g.row.O-Out.Denot). BeginsEmpty (g.O.Shelf.seen c.args.shelf.now).files (g.O.Out.Sink.seen r.sink).content) at.readers.items r i.empty
          (subst (λ (fs : Option (List (List ℕ))). BeginsEmpty fs (g.O.Out.Sink.seen r.sink).content) i.files m.empty));
      names = names_more (g.O.Shelf.seen c.args.shelf.now).names (g.O.Shelf.seen at.shelf).names (g.O.Shelf.seen c.make_reader.new.shelf).names c.args.stem.now (length at.readers.items) (length c.push_reserved.new.self.items)
          (c.len-in-loop-plan.result + 1) i.names m.named (omega (arith, longer, length-append at.readers.items (r ∷ []))) (omega (arith, c.len-in-loop-plan.ensures, at.readers.ok.0));
      files = m.files ∙ i.files;
      room = omega (arith, p.len, p.capacity, i.room, short);
      few = omega (arith, p.len, i.few, short);
      later = omega (arith, i.later, m.later);
    }
