use Rattle.std.proofs.Common.{rules}
use mir.Syntax.{w64}
use mir.Val.{SFits}
use Rattle.sf_tick.specs.Tick.{us}
use Rattle.sf_movie.proofs.Times.{shown_sum}
use Rattle.sf_movie.proofs.shown.shown_us.Goals as goal

pub returns : goal.returns
returns c =
    let fits : SFits w64 c.time_us.result = search rules in
    shown_sum c.time_us.result (us c.args.compose c.args.scale) c.args.lead_us c.args.media_us fits c.ranges.lead_us c.ranges.media_us (search (rules, c.time_us.ensures.exact)) c.time_us.ensures.least
    c.time_us.ensures.most c.requires.lead c.requires.early c.requires.media c.requires.within
