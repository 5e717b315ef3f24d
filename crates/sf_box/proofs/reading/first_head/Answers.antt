use Rattle.sf_box.proofs.Heads.{finds_by}
use Rattle.sf_box.proofs.reading.first_head.Goals as goal

pub returns : goal.returns
returns c = record {
  head = c.look_for.ensures.head;
  piece = finds_by c.args.heads.now c.args.kind.0 c.look_for.result c.look_for.ensures.head;
  among = c.look_for.ensures.among;
}
