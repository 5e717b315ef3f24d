use Rattle.std.proofs.Common.{rules, ◌≡◌, ◌++◌, ◌∷◌, List, [], length, map, sym, ap, subst, ◌∙◌, append_assoc, append-nil, length-append, arith}
use Rattle.std.proofs.lemmas.List.{map-append}
use Rattle.std.specs.Vec.Iter.{into_iter_items}
use Rattle.sf_world.specs.Views.{SourceView}
use Rattle.sf_record.specs.inner.Headers.{HeadersRead}
use Rattle.sf_record.proofs.Errors.{nothing_left}
use Rattle.sf_record.proofs.Opened.{none_read}
use Rattle.sf_record.proofs.headers.Opening.add_all.Goals as goal

pub loop-source-init : goal.loop-source-init
loop-source-init g c =
    let self = c.args.self.now in
    record {
      left = search rules;
      len = search rules;
      read = λ before h.
          subst (λ (vs : List SourceView). HeadersRead c.args.options vs self.setups.items self.pumps.items (map (λ s. g.S.Source.seen s) self.rest.items) self.untaken) (sym (append-nil before)) h;
      few = search rules;
      pumps = search rules;
      setups = search rules;
      rest = search rules;
    }

pub loop-source-preserved : goal.loop-source-preserved
loop-source-preserved g c =
    let at = c.loop-source in
    let i = at.invariant in
    let x = c.in-Some.source in
    let new = c.add.new.self in
    let steps : into_iter_items at.source-iterator ≡ x ∷ into_iter_items c.next.new.self = c.in-Some.ensures.steps.0 in
    let gone = c.in-Some.ensures.steps.1 in
    let short = ap (λ xs. length xs) steps in
    let long = length-append at.yielded (x ∷ []) in
    record {
      left = append_assoc at.yielded (x ∷ []) _ ∙ ap (λ xs. at.yielded ++ xs) (sym steps) ∙ i.left;
      len = omega (arith, i.len, gone, short);
      read = λ before h.
          let seen = map (λ s. g.S.Source.seen s) at.yielded in
          subst (λ (vs : List SourceView). HeadersRead c.args.options vs new.setups.items new.pumps.items (map (λ s. g.S.Source.seen s) new.rest.items) new.untaken)
          (append_assoc before seen (g.S.Source.seen x ∷ []) ∙ ap (λ (vs : List SourceView). before ++ vs) (sym (map-append (λ s. g.S.Source.seen s) at.yielded (x ∷ []))))
          (c.add.ensures.read (before ++ seen) (i.read before h));
      few = omega (arith, i.few, c.add.ensures.count, long);
      pumps = (omega (arith, i.pumps.0, c.add.ensures.pumps.0, long), c.add.ensures.pumps.1 ∙ i.pumps.1);
      setups = (omega (arith, i.setups.0, c.add.ensures.setups.0, long), c.add.ensures.setups.1 ∙ i.setups.1);
      rest = (omega (arith, i.rest.0, c.add.ensures.rest.0, long), c.add.ensures.rest.1 ∙ i.rest.1);
    }

pub returns : goal.returns
returns g c =
    let at = c.loop-source in
    let none = c.in-None.ensures.steps in
    let empty : into_iter_items at.source-iterator ≡ [] = nothing_left _ (sym at.invariant.len ∙ none.0) in
    let all = sym (append-nil at.yielded) ∙ ap (λ xs. at.yielded ++ xs) (sym empty) ∙ at.invariant.left ∙ c.into_iter-source-iterator.ensures.into_iter_gives.0 in
    let seen = ap (λ xs. map (λ s. g.S.Source.seen s) xs) all in
    record {
      read = λ before h.
          subst (λ (vs : List SourceView). HeadersRead c.args.options (before ++ vs) at.self.setups.items at.self.pumps.items (map (λ s. g.S.Source.seen s) at.self.rest.items) at.self.untaken)
          seen (at.invariant.read before h);
      first = λ none.
          subst (λ (vs : List SourceView). HeadersRead c.args.options vs at.self.setups.items at.self.pumps.items (map (λ s. g.S.Source.seen s) at.self.rest.items) at.self.untaken)
          seen (at.invariant.read [] (none_read _ _ _ _ _ none.0 none.1 (ap (λ xs. map (λ s. g.S.Source.seen s) xs) none.2) none.3));
    }
