use Rattle.std.proofs.Common.{◌≡◌, List, map, ap}
use Rattle.std.proofs.Common.{subst}
use Rattle.sf_meaning.specs.Stbl.{Row, timed_of, places_in_rows, counts_in_rows}
use Rattle.sf_tables.specs.Rows.{TrackTables}
use Rattle.sf_tables.specs.inner.Kept.{rows_kept, timed_kept}
use Rattle.sf_tables.specs.inner.Totals.{CountsSamples, CountsChunks}
use Rattle.sf_tables.proofs.KeptRows.{counted, chunks_counted}
use Rattle.sf_tables.proofs.tables.Tables.size.Goals as goal

pub returns-clause-exact : goal.returns-clause-exact
returns-clause-exact c =
    let rows : rows_kept c.self.inside.chunks.items (map timed_kept c.self.inside.samples.items) ≡ c.args.self.now.rows = ap (λ (t : TrackTables). t.rows) c.self.view_is in
    let known : CountsSamples c.self.inside.of_samples (timed_of c.args.self.now.rows) = subst (λ (rs : List Row). CountsSamples c.self.inside.of_samples (timed_of rs)) rows (counted _ _ c.self.inside.samples.items c.self.inside.chunks.items c.self.invariant) in
    let chunks : CountsChunks c.self.inside.of_chunks (places_in_rows c.args.self.now.rows) (counts_in_rows c.args.self.now.rows) = subst (λ (rs : List Row). CountsChunks c.self.inside.of_chunks (places_in_rows rs) (counts_in_rows rs)) rows (chunks_counted _ _ c.self.inside.samples.items c.self.inside.chunks.items c.self.invariant) in
    λ entry same. c.stbl_len.ensures.exact entry c.args.self.now.rows same known chunks
