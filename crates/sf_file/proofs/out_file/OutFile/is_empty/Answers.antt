use Rattle.std.proofs.Common.{ap, ◌∙◌}
use Rattle.sf_file.specs.Open.{OpenFile}
use Rattle.sf_file.proofs.ClosedFile.{none_at}
use Rattle.sf_file.proofs.out_file.OutFile.is_empty.Goals as goal

pub returns-clause-whole : goal.returns-clause-whole
returns-clause-whole g c begun chunks s = none_at chunks c.self.inside.end s.filled (ap (λ (f : OpenFile). f.end) c.self.view_is ∙ s.end)
