use Rattle.std.proofs.Common.{◌≡◌, length, ap, ◌∙◌}
use Rattle.sf_world.specs.Views.{SourceView}
use Rattle.sf_coded.proofs.Windows.{part_from}
use Rattle.sf_coded.proofs.blocks.Blocks.read_anew.Goals as goal

pub returns-clause-bytes : goal.returns-clause-bytes
returns-clause-bytes g c =
    let b = c.fill.new.self in
    let into = c.args.into.now in
    let same : (g.S.Source.seen c.fill.new.source).content ≡ c.args.self.now.content = c.fill.ensures.source.content ∙ ap (λ (v : SourceView). v.content) c.self.view_is in
    rw (← same) (part_from (g.S.Source.seen c.fill.new.source).content b.bytes.items b.from b.held c.args.at (length into) c.copy.new.into
    c.in_ok-fill.ensures.window.bytes c.in_ok-fill.ensures.covers.begins c.in_ok-fill.ensures.covers.ends c.copy.auto.into c.copy.ensures)
