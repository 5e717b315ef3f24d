use Rattle.std.proofs.Common.{◌≡◌, ◌∷◌, [], ◌++◌, length, sym, ap, ◌∙◌, append_assoc, append-nil, length-append, arith}
use Rattle.std.specs.Vec.Iter.{into_iter_items}
use Rattle.sf_record.proofs.Errors.{nothing_left}
use Rattle.sf_record.proofs.serial.with_rest.Goals as goal

pub push_reserved-requires : goal.push_reserved-requires
push_reserved-requires g c =
    let at = c.loop-source in
    let steps = ap (λ xs. length xs) c.in-Some.ensures.steps.0 in
    let all = ap (λ xs. length xs) (at.invariant.left ∙ c.into_iter-source-iterator.ensures.into_iter_gives.0) in
    omega (arith, steps, all, length-append at.yielded (into_iter_items at.source-iterator), at.invariant.room, at.invariant.capacity, c.requires.room)

pub loop-source-preserved : goal.loop-source-preserved
loop-source-preserved g c =
    let at = c.loop-source in
    let i = at.invariant in
    let x = c.in-Some.source in
    let steps : into_iter_items at.source-iterator ≡ x ∷ into_iter_items c.next.new.self = c.in-Some.ensures.steps.0 in
    let gone = c.in-Some.ensures.steps.1 in
    let short = ap (λ xs. length xs) steps in
    record {
      left = append_assoc at.yielded (x ∷ []) _ ∙ ap (λ xs. at.yielded ++ xs) (sym steps) ∙ i.left;
      len = omega (arith, i.len, gone, short);
      items = c.push_reserved.ensures.items ∙ ap (λ xs. xs ++ x ∷ []) i.items ∙ append_assoc _ at.yielded (x ∷ []);
      room = omega (arith, i.room, c.push_reserved.ensures.len, length-append at.yielded (x ∷ []));
      capacity = c.push_reserved.ensures.capacity ∙ i.capacity;
    }

pub returns : goal.returns
returns g c =
    let at = c.loop-source in
    let none = c.in-None.ensures.steps in
    let empty : into_iter_items at.source-iterator ≡ [] = nothing_left _ (sym at.invariant.len ∙ none.0) in
    let all = sym (append-nil at.yielded) ∙ ap (λ xs. at.yielded ++ xs) (sym empty) ∙ at.invariant.left ∙ c.into_iter-source-iterator.ensures.into_iter_gives.0 in
    at.invariant.items ∙ ap (λ xs. c.args.back.items ++ xs) all
