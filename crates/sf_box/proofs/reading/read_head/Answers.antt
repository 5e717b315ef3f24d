use Rattle.std.proofs.Common.{◌<◌, ◌-◌, arith}
use Rattle.sf_box.proofs.Heads.{step_by_head}
use Rattle.sf_box.proofs.reading.read_head.Goals as goal

pub returns : goal.returns
returns c =
    let some : 0 < c.args.end - c.args.at = omega (arith, c.requires.order) in
    record {
      head = c.head_in.ensures;
      step = step_by_head c.args.top c.args.at (c.args.end - c.args.at) c.args.first.now c.head_in.result some c.head_in.ensures;
    }
