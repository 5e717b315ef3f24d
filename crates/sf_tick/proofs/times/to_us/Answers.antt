use Rattle.sf_tick.proofs.Floor.{floors}
use Rattle.sf_tick.proofs.times.to_us.Goals as goal

pub returns : goal.returns
returns c =
    floors c.args.tick c.from.result c.from-2.result c.div_euclid.result c.args.scale c.ranges.tick c.requires.tick (c.ranges.scale.fits) c.from.ensures c.from-2.ensures c.div_euclid.ensures
