use Rattle.std.proofs.Common.{◌≡◌, List, map, ap, ◌∙◌, arith}
use Rattle.std.proofs.Common.{subst}
use Rattle.sf_meaning.specs.Stbl.{Row, timed_of}
use Rattle.sf_tables.specs.Rows.{TrackTables}
use Rattle.sf_tables.specs.inner.Kept.{rows_kept, timed_kept}
use Rattle.sf_tables.specs.inner.Totals.{CountsSamples}
use Rattle.sf_tables.proofs.KeptRows.{counted, counted_with, last_counted_is}
use Rattle.sf_tables.proofs.tables.Tables.duration_with.Goals as goal

pub with_samples-totals-requires-clause-few : goal.with_samples-totals-requires-clause-few
with_samples-totals-requires-clause-few c =
    let rows : rows_kept c.self.inside.chunks.items (map timed_kept c.self.inside.samples.items) ≡ c.args.self.now.rows = ap (λ (t : TrackTables). t.rows) c.self.view_is in
    let known : CountsSamples c.self.inside.of_samples (timed_of c.args.self.now.rows) = subst (λ (rs : List Row). CountsSamples c.self.inside.of_samples (timed_of rs)) rows (counted _ _ c.self.inside.samples.items c.self.inside.chunks.items c.self.invariant) in
    rw c.as_slice.ensures (omega (arith, known.count, c.requires.few))

pub with_samples-totals-requires-clause-room : goal.with_samples-totals-requires-clause-room
with_samples-totals-requires-clause-room c =
    let rows : rows_kept c.self.inside.chunks.items (map timed_kept c.self.inside.samples.items) ≡ c.args.self.now.rows = ap (λ (t : TrackTables). t.rows) c.self.view_is in
    let known : CountsSamples c.self.inside.of_samples (timed_of c.args.self.now.rows) = subst (λ (rs : List Row). CountsSamples c.self.inside.of_samples (timed_of rs)) rows (counted _ _ c.self.inside.samples.items c.self.inside.chunks.items c.self.invariant) in
    rw (c.as_slice.ensures, last_counted_is c.self.inside.of_samples c.args.self.now.rows known) c.requires.room

pub returns : goal.returns
returns c =
    let rows : rows_kept c.self.inside.chunks.items (map timed_kept c.self.inside.samples.items) ≡ c.args.self.now.rows = ap (λ (t : TrackTables). t.rows) c.self.view_is in
    let known : CountsSamples c.self.inside.of_samples (timed_of c.args.self.now.rows) = subst (λ (rs : List Row). CountsSamples c.self.inside.of_samples (timed_of rs)) rows (counted _ _ c.self.inside.samples.items c.self.inside.chunks.items c.self.invariant) in
    λ place. c.duration.ensures ∙ rw (c.with_samples-totals.ensures.exact, c.as_slice.ensures) (counted_with c.self.inside.of_samples c.args.self.now.rows place c.args.chunk.now known).duration
