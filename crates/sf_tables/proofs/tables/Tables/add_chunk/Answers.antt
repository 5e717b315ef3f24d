use Rattle.std.proofs.Common.{◌≡◌, ◌≤◌, List, ◌++◌, length, map, ap, ◌∙◌, arith, subst}
use Rattle.sf_meaning.specs.Stbl.{Row, timed_of}
use Rattle.sf_meaning.specs.Rows.{timed}
use Rattle.sf_tables.specs.Rows.{TrackTables, with_chunk}
use Rattle.sf_tables.specs.inner.Kept.{rows_kept, timed_kept}
use Rattle.sf_tick.specs.declared.types.Stored.{Stored}
use Rattle.sf_tables.specs.declared.kept.KeptChunk.{KeptChunk}
use Rattle.sf_tables.specs.declared.totals.ChunkTotals.{ChunkTotals}
use Rattle.sf_tables.specs.inner.Totals.{CountsSamples, Steady, after_samples}
use Rattle.sf_tables.proofs.KeptRows.{counted, chunks_few, last_counted_is, sizes_fit, sound_with, rows_with}
use Rattle.sf_tables.proofs.tables.Tables.add_chunk.Goals as goal

pub with_samples-self-inside-requires-clause-few : goal.with_samples-self-inside-requires-clause-few
with_samples-self-inside-requires-clause-few c =
    let rows : rows_kept c.self.inside.chunks.items (map timed_kept c.self.inside.samples.items) ≡ c.args.self.now.rows = ap (λ (t : TrackTables). t.rows) c.self.view_is in
    let known : CountsSamples c.self.inside.of_samples (timed_of c.args.self.now.rows) = subst (λ (rs : List Row). CountsSamples c.self.inside.of_samples (timed_of rs)) rows (counted _ _ c.self.inside.samples.items c.self.inside.chunks.items c.self.invariant) in
    rw c.as_slice-samples.ensures (omega (arith, known.count, c.requires.addable.few))

pub with_samples-self-inside-requires-clause-room : goal.with_samples-self-inside-requires-clause-room
with_samples-self-inside-requires-clause-room c =
    let rows : rows_kept c.self.inside.chunks.items (map timed_kept c.self.inside.samples.items) ≡ c.args.self.now.rows = ap (λ (t : TrackTables). t.rows) c.self.view_is in
    let known : CountsSamples c.self.inside.of_samples (timed_of c.args.self.now.rows) = subst (λ (rs : List Row). CountsSamples c.self.inside.of_samples (timed_of rs)) rows (counted _ _ c.self.inside.samples.items c.self.inside.chunks.items c.self.invariant) in
    rw (c.as_slice-samples.ensures, last_counted_is c.self.inside.of_samples c.args.self.now.rows known) c.requires.addable.room

pub with_chunk-self-inside-requires-clause-few : goal.with_chunk-self-inside-requires-clause-few
with_chunk-self-inside-requires-clause-few c =
    let rows : rows_kept c.self.inside.chunks.items (map timed_kept c.self.inside.samples.items) ≡ c.args.self.now.rows = ap (λ (t : TrackTables). t.rows) c.self.view_is in
    let known : CountsSamples c.self.inside.of_samples (timed_of c.args.self.now.rows) = subst (λ (rs : List Row). CountsSamples c.self.inside.of_samples (timed_of rs)) rows (counted _ _ c.self.inside.samples.items c.self.inside.chunks.items c.self.invariant) in
    chunks_few _ _ c.self.inside.samples.items c.self.inside.chunks.items c.args.chunk.now c.self.invariant (rw rows c.requires.addable)

pub keep_samples-requires-clause-sizes : goal.keep_samples-requires-clause-sizes
keep_samples-requires-clause-sizes c = rw c.as_slice-samples.ensures (sizes_fit _ c.args.chunk.now.samples c.requires.addable.room)

pub invariant_of-self : goal.invariant_of-self
invariant_of-self c =
    let rows : rows_kept c.self.inside.chunks.items (map timed_kept c.self.inside.samples.items) ≡ c.args.self.now.rows = ap (λ (t : TrackTables). t.rows) c.self.view_is in
    let added : KeptChunk = record { place = c.args.place; count = length c.as_slice-samples.result.now } in
    let kept : map timed_kept c.keep_samples.new.list.items ≡ map timed_kept c.self.inside.samples.items ++ map timed c.args.chunk.now.samples
    = c.keep_samples.ensures.kept ∙ ap (λ (xs : List Stored). map timed_kept c.self.inside.samples.items ++ map timed xs) c.as_slice-samples.ensures in
    let count : length c.as_slice-samples.result.now ≡ length c.args.chunk.now.samples = ap (λ (xs : List Stored). length xs) c.as_slice-samples.ensures in
    let totals : c.with_samples-self-inside.result ≡ after_samples c.self.inside.of_samples (map timed c.args.chunk.now.samples)
    = c.with_samples-self-inside.ensures.exact ∙ ap (λ (xs : List Stored). after_samples c.self.inside.of_samples (map timed xs)) c.as_slice-samples.ensures in
    let steady : Steady (after_samples c.self.inside.of_samples (map timed c.args.chunk.now.samples)) = subst Steady totals c.with_samples-self-inside.ensures.steady in
    let spreads = subst (λ (k : ChunkTotals). k.spreads ≤ k.chunks) c.with_chunk-self-inside.ensures.exact c.with_chunk-self-inside.ensures.few in
    rw (totals, c.with_chunk-self-inside.ensures.exact, c.push_reserved.ensures.items)
    (sound_with _ _ c.self.inside.samples.items c.keep_samples.new.list.items c.self.inside.chunks.items added c.args.chunk.now c.self.invariant (rw rows c.requires.addable) kept count steady spreads)

pub returns-clause-rows : goal.returns-clause-rows
returns-clause-rows c =
    let rows : rows_kept c.self.inside.chunks.items (map timed_kept c.self.inside.samples.items) ≡ c.args.self.now.rows = ap (λ (t : TrackTables). t.rows) c.self.view_is in
    let added : KeptChunk = record { place = c.args.place; count = length c.as_slice-samples.result.now } in
    let kept : map timed_kept c.keep_samples.new.list.items ≡ map timed_kept c.self.inside.samples.items ++ map timed c.args.chunk.now.samples
    = c.keep_samples.ensures.kept ∙ ap (λ (xs : List Stored). map timed_kept c.self.inside.samples.items ++ map timed xs) c.as_slice-samples.ensures in
    let count : length c.as_slice-samples.result.now ≡ length c.args.chunk.now.samples = ap (λ (xs : List Stored). length xs) c.as_slice-samples.ensures in
    rw c.push_reserved.ensures.items
    (rows_with c.self.inside.samples.items c.keep_samples.new.list.items c.self.inside.chunks.items added c.args.chunk.now c.self.invariant.whole kept count
    ∙ ap (λ (rs : List Row). with_chunk rs c.args.place c.args.chunk.now) rows)
