use Rattle.std.proofs.Common.{rules}
use Rattle.std.proofs.lemmas.Int.{to_z-of_z}
use mir.Syntax.{w64}
use mir.Val.{SFits, of_z, to_z}
use Rattle.sf_movie.proofs.Times.{time_least, time_most}
use Rattle.sf_movie.proofs.shown.time_us.Goals as goal

pub returns-clause-least : goal.returns-clause-least
returns-clause-least c =
    let fits : SFits w64 c.to_us.result = search rules in
    time_least c.to_us.result c.args.tick (to_z w64 (of_z w64 c.args.tick)) c.args.scale fits (to_z-of_z w64 c.args.tick c.ranges.tick) c.to_us.ensures c.requires.scale c.requires.tick
    c.greatest_us.ensures.greatest

pub returns-clause-most : goal.returns-clause-most
returns-clause-most c =
    let fits : SFits w64 c.to_us.result = search rules in
    time_most c.to_us.result c.args.tick (to_z w64 (of_z w64 c.args.tick)) c.args.scale fits (to_z-of_z w64 c.args.tick c.ranges.tick) c.to_us.ensures c.requires.scale c.requires.tick
    c.greatest_us.ensures.is
