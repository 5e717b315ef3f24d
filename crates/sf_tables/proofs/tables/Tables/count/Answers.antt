use Rattle.std.proofs.Common.{◌≡◌, List, map, ap, ◌∙◌}
use Rattle.std.proofs.Common.{subst}
use Rattle.sf_meaning.specs.Stbl.{Row, timed_of}
use Rattle.sf_tables.specs.Rows.{TrackTables}
use Rattle.sf_tables.specs.inner.Kept.{rows_kept, timed_kept}
use Rattle.sf_tables.specs.inner.Totals.{CountsSamples}
use Rattle.sf_tables.proofs.KeptRows.{counted}
use Rattle.sf_tables.proofs.tables.Tables.count.Goals as goal

pub returns : goal.returns
returns c =
    let rows : rows_kept c.self.inside.chunks.items (map timed_kept c.self.inside.samples.items) ≡ c.args.self.now.rows = ap (λ (t : TrackTables). t.rows) c.self.view_is in
    let known : CountsSamples c.self.inside.of_samples (timed_of c.args.self.now.rows) = subst (λ (rs : List Row). CountsSamples c.self.inside.of_samples (timed_of rs)) rows (counted _ _ c.self.inside.samples.items c.self.inside.chunks.items c.self.invariant) in
    c.from.ensures ∙ known.count
