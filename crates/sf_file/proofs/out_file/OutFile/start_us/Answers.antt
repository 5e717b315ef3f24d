use Rattle.std.proofs.Common.{ℕ, List, Option, ap, ◌∙◌}
use Rattle.std.specs.Option.{unwrap_or}
use Rattle.sf_layout.specs.Layout.{start_of}
use Rattle.sf_file.specs.Open.{OpenFile, rows_in}
use Rattle.sf_file.specs.inner.Tracks.{KeptTrack, held_in}
use Rattle.sf_file.proofs.ClosedFile.{stands_rows}
use Rattle.sf_file.proofs.out_file.OutFile.start_us.Goals as goal

pub returns-clause-whole : goal.returns-clause-whole
returns-clause-whole g c begun chunks s =
    c.unwrap_or.ensures ∙ ap (λ (o : Option ℕ). unwrap_or o 0) c.earliest.ensures
    ∙ ap (λ (ks : List KeptTrack). start_of (rows_in (held_in ks))) c.deref.ensures.value
    ∙ ap (λ (f : OpenFile). start_of (rows_in f.tracks)) c.self.view_is
    ∙ ap start_of (stands_rows s)
