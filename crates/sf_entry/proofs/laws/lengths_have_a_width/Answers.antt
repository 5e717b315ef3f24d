use Rattle.sf_entry.proofs.Widths.{widths_read}
use Rattle.sf_entry.proofs.laws.lengths_have_a_width.Goals as goal

pub returns : goal.returns
returns c = widths_read
