use Rattle.std.proofs.Common.{◌≡◌, ◌==◌, false, List, map, ap, subst}
use Rattle.std.proofs.lemmas.Bool.{ne_eqb}
use Rattle.sf_meaning.specs.Stbl.{Row, timed_of}
use Rattle.sf_tables.specs.Rows.{TrackTables}
use Rattle.sf_tables.specs.inner.Kept.{rows_kept, timed_kept}
use Rattle.sf_tables.specs.inner.Totals.{CountsSamples}
use Rattle.sf_tables.proofs.KeptRows.{counted, last_counted_is}
use Rattle.sf_tables.proofs.tests.last_tick.Goals as goal

pub returns-else-totals-eq0 : goal.returns-else-totals-eq0
returns-else-totals-eq0 c =
    let rows : rows_kept c.tables.inside.chunks.items (map timed_kept c.tables.inside.samples.items) ≡ c.args.tables.now.rows = ap (λ (t : TrackTables). t.rows) c.tables.view_is in
    let known : CountsSamples c.tables.inside.of_samples (timed_of c.args.tables.now.rows) = subst (λ (rs : List Row). CountsSamples c.tables.inside.of_samples (timed_of rs)) rows (counted _ _ c.tables.inside.samples.items c.tables.inside.chunks.items c.tables.invariant) in
    let some : (c.tables.inside.of_samples.count == 0) ≡ false = ne_eqb c.tables.inside.of_samples.count 0 c.if-totals-eq0.false in
    rw some at (last_counted_is c.tables.inside.of_samples c.args.tables.now.rows known)
