use Rattle.std.proofs.Common.{◌≡◌, ◌∷◌, [], ◌++◌, List, length, map, sym, ap, ◌∙◌, append_assoc, append-nil, length-append, arith}
use Rattle.std.proofs.lemmas.List.{map-append}
use Rattle.std.specs.Vec.Iter.{into_iter_items}
use Rattle.sf_world.specs.Views.{SourceView}
use Rattle.sf_record.proofs.Errors.{nothing_left}
use Rattle.sf_record.proofs.serial.sources_of.Goals as goal

pub push_reserved-requires : goal.push_reserved-requires
push_reserved-requires g c =
    let at = c.loop-pump in
    let steps = ap (λ xs. length xs) c.in-Some.ensures.steps.0 in
    let all = ap (λ xs. length xs) (at.invariant.left ∙ c.into_iter-pump-iterator.ensures.into_iter_gives.0) in
    omega (arith, steps, all, length-append at.yielded (into_iter_items at.pump-iterator), at.invariant.room, at.invariant.capacity, c.requires.room)

pub loop-pump-preserved : goal.loop-pump-preserved
loop-pump-preserved g c =
    let at = c.loop-pump in
    let i = at.invariant in
    let x = c.in-Some.pump in
    let steps : into_iter_items at.pump-iterator ≡ x ∷ into_iter_items c.next.new.self = c.in-Some.ensures.steps.0 in
    let gone = c.in-Some.ensures.steps.1 in
    let short = ap (λ xs. length xs) steps in
    record {
      left = append_assoc at.yielded (x ∷ []) _ ∙ ap (λ xs. at.yielded ++ xs) (sym steps) ∙ i.left;
      len = omega (arith, i.len, gone, short);
      sources =
          ap (λ xs. map (λ s. g.S.Source.seen s) xs) c.push_reserved.ensures.items
          ∙ map-append (λ s. g.S.Source.seen s) at.sources.items (c.give_source.result ∷ [])
          ∙ ap (λ (v : SourceView). map (λ s. g.S.Source.seen s) at.sources.items ++ v ∷ []) c.give_source.ensures
          ∙ ap (λ (vs : List SourceView). vs ++ x.coded.source ∷ []) i.sources
          ∙ append_assoc (map (λ s. g.S.Source.seen s) c.args.back.items) (map (λ p. p.coded.source) at.yielded) (x.coded.source ∷ [])
          ∙ ap (λ (vs : List SourceView). map (λ s. g.S.Source.seen s) c.args.back.items ++ vs) (sym (map-append (λ p. p.coded.source) at.yielded (x ∷ [])));
      room = omega (arith, i.room, c.push_reserved.ensures.len, length-append at.yielded (x ∷ []));
      capacity = c.push_reserved.ensures.capacity ∙ i.capacity;
    }

pub returns-clause-sources : goal.returns-clause-sources
returns-clause-sources g c =
    let at = c.loop-pump in
    let none = c.in-None.ensures.steps in
    let empty : into_iter_items at.pump-iterator ≡ [] = nothing_left _ (sym at.invariant.len ∙ none.0) in
    let all = sym (append-nil at.yielded) ∙ ap (λ xs. at.yielded ++ xs) (sym empty) ∙ at.invariant.left ∙ c.into_iter-pump-iterator.ensures.into_iter_gives.0 in
    at.invariant.sources ∙ ap (λ xs. map (λ s. g.S.Source.seen s) c.args.back.items ++ map (λ p. p.coded.source) xs) all

pub returns-clause-len : goal.returns-clause-len
returns-clause-len g c =
    let at = c.loop-pump in
    let none = c.in-None.ensures.steps in
    let empty : into_iter_items at.pump-iterator ≡ [] = nothing_left _ (sym at.invariant.len ∙ none.0) in
    let all = sym (append-nil at.yielded) ∙ ap (λ xs. at.yielded ++ xs) (sym empty) ∙ at.invariant.left ∙ c.into_iter-pump-iterator.ensures.into_iter_gives.0 in
    let long = ap (λ xs. length xs) all in
    omega (arith, at.invariant.room, long)
