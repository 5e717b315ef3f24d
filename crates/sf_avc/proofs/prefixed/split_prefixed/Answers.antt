use Rattle.std.proofs.Common.{◌≡◌, ◌++◌, ◌∷◌, [], subst, arith, ℕ, Ok, map}
use Rattle.sf_avc.proofs.Tiling.{Tiled, tiled_on, tiled_ends, bad_tile}
use Rattle.sf_avc.specs.Tiling.{tiling}
use Rattle.sf_avc.specs.inner.Tiling.{NoTile}
use Rattle.sf_avc.specs.Units.{unit_at}
use Rattle.sf_avc.proofs.prefixed.split_prefixed.Goals as goal

pub returns-in_err-unit-clause-units : goal.returns-in_err-unit-clause-units
returns-in_err-unit-clause-units c =
    bad_tile c.args.width c.loop-at.at c.args.stored.now c.split_at.result.1.now c.loop-at.units c.in_err-unit.field-0.0 c.from_residual.result
    c.from_residual.ensures.1 (grind arith) c.split_at.ensures.back
    (subst (λ (w : ℕ). NoTile w c.loop-at.at c.split_at.result.1.now c.in_err-unit.field-0.0) c.from-width.ensures c.in_err-unit.ensures)
    (subst (λ (w : ℕ). Tiled w c.args.stored.now c.loop-at.units c.loop-at.at) c.from-width.ensures c.loop-at.invariant)

pub loop-at-preserved : goal.loop-at-preserved
loop-at-preserved c =
    let more : c.push.new.self ≡ c.loop-at.units ++ c.in_ok-unit.unit ∷ [] = grind arith in
    tiled_on c.from-width.result c.loop-at.at c.args.stored.now c.split_at.result.1.now c.loop-at.units c.push.new.self c.in_ok-unit.unit
    (grind arith) more c.split_at.ensures.back c.in_ok-unit.ensures c.loop-at.invariant

pub returns-clause-units : goal.returns-clause-units
returns-clause-units c =
    subst (λ (w : ℕ). tiling w 0 c.args.stored.now ≡ Ok (map (unit_at c.args.stored.now) c.loop-at.units)) c.from-width.ensures
    (tiled_ends c.from-width.result c.loop-at.at c.args.stored.now c.loop-at.units (grind arith) c.loop-at.invariant)
