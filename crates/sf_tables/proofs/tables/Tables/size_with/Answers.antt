use Rattle.std.proofs.Common.{◌≡◌, List, map, ap, arith}
use Rattle.std.proofs.Common.{subst}
use Rattle.sf_meaning.specs.Stbl.{Row, timed_of, places_in_rows, counts_in_rows}
use Rattle.sf_tables.specs.Rows.{TrackTables, with_chunk}
use Rattle.sf_tables.specs.inner.Kept.{rows_kept, timed_kept}
use Rattle.sf_tables.specs.inner.Totals.{CountsSamples, CountsChunks}
use Rattle.sf_tables.proofs.KeptRows.{counted, chunks_counted, counted_with, chunks_counted_with, chunks_few, last_counted_is}
use Rattle.sf_tables.proofs.tables.Tables.size_with.Goals as goal

pub with_samples-of_samples-requires-clause-few : goal.with_samples-of_samples-requires-clause-few
with_samples-of_samples-requires-clause-few c =
    let rows : rows_kept c.self.inside.chunks.items (map timed_kept c.self.inside.samples.items) ≡ c.args.self.now.rows = ap (λ (t : TrackTables). t.rows) c.self.view_is in
    let known : CountsSamples c.self.inside.of_samples (timed_of c.args.self.now.rows) = subst (λ (rs : List Row). CountsSamples c.self.inside.of_samples (timed_of rs)) rows (counted _ _ c.self.inside.samples.items c.self.inside.chunks.items c.self.invariant) in
    rw c.as_slice-samples.ensures (omega (arith, known.count, c.requires.addable.few))

pub with_samples-of_samples-requires-clause-room : goal.with_samples-of_samples-requires-clause-room
with_samples-of_samples-requires-clause-room c =
    let rows : rows_kept c.self.inside.chunks.items (map timed_kept c.self.inside.samples.items) ≡ c.args.self.now.rows = ap (λ (t : TrackTables). t.rows) c.self.view_is in
    let known : CountsSamples c.self.inside.of_samples (timed_of c.args.self.now.rows) = subst (λ (rs : List Row). CountsSamples c.self.inside.of_samples (timed_of rs)) rows (counted _ _ c.self.inside.samples.items c.self.inside.chunks.items c.self.invariant) in
    rw (c.as_slice-samples.ensures, last_counted_is c.self.inside.of_samples c.args.self.now.rows known) c.requires.addable.room

pub with_chunk-of_chunks-requires-clause-few : goal.with_chunk-of_chunks-requires-clause-few
with_chunk-of_chunks-requires-clause-few c =
    let rows : rows_kept c.self.inside.chunks.items (map timed_kept c.self.inside.samples.items) ≡ c.args.self.now.rows = ap (λ (t : TrackTables). t.rows) c.self.view_is in
    let known : CountsSamples c.self.inside.of_samples (timed_of c.args.self.now.rows) = subst (λ (rs : List Row). CountsSamples c.self.inside.of_samples (timed_of rs)) rows (counted _ _ c.self.inside.samples.items c.self.inside.chunks.items c.self.invariant) in
    chunks_few _ _ c.self.inside.samples.items c.self.inside.chunks.items c.args.chunk.now c.self.invariant (rw rows c.requires.addable)

pub returns-clause-exact : goal.returns-clause-exact
returns-clause-exact c =
    let rows : rows_kept c.self.inside.chunks.items (map timed_kept c.self.inside.samples.items) ≡ c.args.self.now.rows = ap (λ (t : TrackTables). t.rows) c.self.view_is in
    let known : CountsSamples c.self.inside.of_samples (timed_of c.args.self.now.rows) = subst (λ (rs : List Row). CountsSamples c.self.inside.of_samples (timed_of rs)) rows (counted _ _ c.self.inside.samples.items c.self.inside.chunks.items c.self.invariant) in
    let chunks : CountsChunks c.self.inside.of_chunks (places_in_rows c.args.self.now.rows) (counts_in_rows c.args.self.now.rows) = subst (λ (rs : List Row). CountsChunks c.self.inside.of_chunks (places_in_rows rs) (counts_in_rows rs)) rows (chunks_counted _ _ c.self.inside.samples.items c.self.inside.chunks.items c.self.invariant) in
    λ entry same. c.stbl_len.ensures.exact entry (with_chunk c.args.self.now.rows c.args.place c.args.chunk.now) same
    (rw (c.with_samples-of_samples.ensures.exact, c.as_slice-samples.ensures) (counted_with c.self.inside.of_samples c.args.self.now.rows c.args.place c.args.chunk.now known))
    (rw (c.with_chunk-of_chunks.ensures.exact, c.as_slice-samples.ensures) (chunks_counted_with c.self.inside.of_chunks c.args.self.now.rows c.args.place c.args.chunk.now chunks))
