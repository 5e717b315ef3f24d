use Rattle.std.proofs.Common.{◌≤◌, ◌*◌, ◌/◌, arith}
use Rattle.std.proofs.lemmas.Int.{ints}
use Rattle.sf_movie.proofs.Times.{length_is, length_most}
use Rattle.sf_movie.proofs.shown.length_us.Goals as goal

pub returns-clause-exact : goal.returns-clause-exact
returns-clause-exact c = length_is c.from.result c.from-2.result c.args.ticks c.args.scale c.from.ensures c.from-2.ensures c.requires.ticks

pub returns-clause-least : goal.returns-clause-least
returns-clause-least c =
    rw (length_is c.from.result c.from-2.result c.args.ticks c.args.scale c.from.ensures c.from-2.ensures c.requires.ticks) (omega (arith, ints))

pub returns-clause-most : goal.returns-clause-most
returns-clause-most c =
    let q : c.args.ticks * 1000000 / c.args.scale ≤ 1099511627776000000 = length_most c.args.ticks c.args.scale c.requires.ticks in
    rw (length_is c.from.result c.from-2.result c.args.ticks c.args.scale c.from.ensures c.from-2.ensures c.requires.ticks) (omega (arith, ints, q))
