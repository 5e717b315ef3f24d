use Rattle.std.proofs.Common.{◌≡◌, ◌+◌, List, ◌∷◌, ℕ, take, drop, replicate, length, refl, ap, sym, subst, ◌∙◌, arith, length-drop}
use Rattle.std.proofs.lemmas.List.{drop_more, drop_all, length-take, length-replicate}
use Rattle.std.proofs.lemmas.Grind.{elements, same_number_lists}
use Rattle.sf_world.specs.Holes.{laid}
use Rattle.sf_world.proofs.Filling.{Filling, filled_more}
use Rattle.sf_world.proofs.hole_source.fill.Goals as goal

-- src/hole_source.rt:53:5
pub loop-piece-init : goal.loop-piece-init
loop-piece-init c =
    let zeros : List ℕ = replicate c.args.size 0 in
    let sized : length zeros ≡ c.args.size = length-replicate c.args.size 0 in
    record {
      bytes = zeros;
      sized = sized;
      shown = same_number_lists c.fill.new.self (take (length c.fill.new.self) (drop c.args.at zeros))
          (omega (arith, c.fill.ensures.len, c.requires.range, sized, length-take (length c.fill.new.self) (drop c.args.at zeros), length-drop c.args.at zeros))
          (λ k k<. grind (arith, elements));
      whole = refl;
      inside = c.requires.within;
    }

-- src/hole_source.rt:53:5
pub loop-piece-preserved : goal.loop-piece-preserved
loop-piece-preserved c =
    filled_more c.args.size c.args.at c.loop-piece.into c.lay.new.into (c.piece-item.result.0, c.as_slice.result.now) (drop (c.loop-piece.piece-index + 1) c.args.pieces.now) c.args.pieces.now
    (omega (arith, c.requires.range, c.loop-piece.auto.into, c.fill.ensures.len)) c.lay.auto.into
    c.lay.ensures
    (subst (λ left. Filling c.args.size c.args.at c.loop-piece.into left c.args.pieces.now)
    (drop_more c.args.pieces.now c.loop-piece.piece-index c.piece-item.result c.loop-piece-test.true
    ∙ ap (λ piece. piece ∷ drop (c.loop-piece.piece-index + 1) c.args.pieces.now) (sym c.piece-item.is ∙ ap (λ (p : List ℕ). (c.piece-item.result.0, p)) (sym c.as_slice.ensures)))
    c.loop-piece.invariant)

-- src/hole_source.rt:47:1
pub returns : goal.returns
returns c =
    let f = c.loop-piece.invariant in
    f.shown
    ∙ ap (λ (n : ℕ). take n (drop c.args.at f.bytes)) (c.loop-piece.auto.into ∙ c.fill.ensures.len)
    ∙ ap (λ (bytes : List ℕ). take (length c.args.into.now) (drop c.args.at bytes))
    (ap (laid f.bytes) (sym (drop_all c.loop-piece.piece-index c.args.pieces.now c.loop-piece-test.false)) ∙ f.whole)
