use Rattle.std.proofs.Common.{ℕ, ◌-◌, List, ap, ◌∙◌}
use Rattle.sf_box.specs.Boxes.{be64}
use Rattle.sf_world.specs.Contents.{grown, patched}
use Rattle.sf_file.specs.Open.{OpenFile}
use Rattle.sf_file.proofs.ClosedFile.{stands_closed}
use Rattle.sf_file.proofs.out_file.OutFile.close.Goals as goal

pub returns-in-Ok-patch-clause-closed : goal.returns-in-Ok-patch-clause-closed
unfolding be64
returns-in-Ok-patch-clause-closed g c begun chunks i s =
    stands_closed (c.self.inside.end - 24) c.in-Ok.movie_box i s (ap (λ (f : OpenFile). f.end - 24) c.self.view_is) c.in-Ok.ensures
    (c.in_default-put.ensures.ok.content ∙ ap (λ (b : List ℕ). grown (g.S.Sink.seen c.self.inside.sink).content b) c.as_slice.ensures
    ∙ ap (λ (f : OpenFile). grown f.sink.content c.in-Ok.movie_box) c.self.view_is)
    (c.in-Ok-patch.ensures.ok ∙ ap (λ (b : List ℕ). patched (g.S.Sink.seen c.put.new.sink).content 32 b) c.to_be_bytes.ensures)
