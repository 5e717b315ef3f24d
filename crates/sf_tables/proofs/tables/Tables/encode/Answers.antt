use Rattle.std.proofs.Common.{◌≡◌, ◌+◌, ◌<◌, List, ◌++◌, codes, length, map, sym, ap, ◌∙◌}
use Rattle.std.proofs.Common.{subst}
use Rattle.std.specs.Prelude.{◌^◌, OnOk}
use Rattle.sf_box.specs.Boxes.{box_of}
use Rattle.sf_box.specs.Parts.{Part, tiled}
use Rattle.sf_tables.specs.declared.kept.KeptChunk.{KeptChunk}
use Rattle.sf_tables.specs.declared.kept.KeptSample.{KeptSample}
use Rattle.sf_meaning.specs.Stbl.{stbl_parts, Row}
use Rattle.sf_tables.specs.Rows.{TrackTables}
use Rattle.sf_tables.specs.inner.Kept.{rows_kept, timed_kept, places_kept, counts_kept, stbl_from}
use Rattle.sf_tables.proofs.KeptRows.{stbl_back}
use Rattle.sf_tables.proofs.tables.Tables.encode.Goals as goal

pub put_stbl-put-requires-clause-size : goal.put_stbl-put-requires-clause-size
put_stbl-put-requires-clause-size c =
    let rows : rows_kept c.self.inside.chunks.items (map timed_kept c.self.inside.samples.items) ≡ c.args.self.now.rows = ap (λ (t : TrackTables). t.rows) c.self.view_is in
    let parts : stbl_parts c.args.entry.now c.args.self.now.rows ≡ stbl_from c.args.entry.now (map timed_kept c.deref.result.now) (places_kept c.deref-2.result.now) (counts_kept c.deref-2.result.now)
    = ap (λ (rs : List Row). stbl_parts c.args.entry.now rs) (sym rows)
    ∙ stbl_back _ _ c.self.inside.samples.items c.self.inside.chunks.items c.args.entry.now c.self.invariant
    ∙ ap (λ (xs : List KeptSample). stbl_from c.args.entry.now (map timed_kept xs) (places_kept c.self.inside.chunks.items) (counts_kept c.self.inside.chunks.items)) (sym c.deref.ensures.value)
    ∙ ap (λ (ks : List KeptChunk). stbl_from c.args.entry.now (map timed_kept c.deref.result.now) (places_kept ks) (counts_kept ks)) (sym c.deref-2.ensures.value) in
    subst (λ (ps : List Part). 8 + length (tiled ps) < 2 ^ 32) parts c.requires

pub returns-else-is_err-clause-ok : goal.returns-else-is_err-clause-ok
returns-else-is_err-clause-ok c =
    let rows : rows_kept c.self.inside.chunks.items (map timed_kept c.self.inside.samples.items) ≡ c.args.self.now.rows = ap (λ (t : TrackTables). t.rows) c.self.view_is in
    let parts : stbl_parts c.args.entry.now c.args.self.now.rows ≡ stbl_from c.args.entry.now (map timed_kept c.deref.result.now) (places_kept c.deref-2.result.now) (counts_kept c.deref-2.result.now)
    = ap (λ (rs : List Row). stbl_parts c.args.entry.now rs) (sym rows)
    ∙ stbl_back _ _ c.self.inside.samples.items c.self.inside.chunks.items c.args.entry.now c.self.invariant
    ∙ ap (λ (xs : List KeptSample). stbl_from c.args.entry.now (map timed_kept xs) (places_kept c.self.inside.chunks.items) (counts_kept c.self.inside.chunks.items)) (sym c.deref.ensures.value)
    ∙ ap (λ (ks : List KeptChunk). stbl_from c.args.entry.now (map timed_kept c.deref.result.now) (places_kept ks) (counts_kept ks)) (sym c.deref-2.ensures.value) in
    subst (λ (ps : List Part). OnOk c.put_stbl-put.result (c.put_stbl-put.new.out ≡ c.args.out.now ++ box_of (codes "stbl") (tiled ps))) (sym parts) c.put_stbl-put.ensures.put
