use Rattle.sf_avc.proofs.Searching.{cuts_at}
use Rattle.sf_avc.proofs.nal.code_place.Goals as goal

pub returns : goal.returns
returns c = cuts_at c.args.bytes.now c.find.result c.find.ensures
