use Rattle.std.proofs.Common.{◌≡◌, true, false, sym, ◌∙◌, arith}
use Rattle.std.proofs.lemmas.List.{length-map}
use Rattle.sf_meaning.specs.Stbl.{all_near}
use Rattle.sf_tables.specs.declared.kept.KeptChunk.{KeptChunk}
use Rattle.sf_tables.specs.inner.Kept.{counts_kept, places_kept}
use Rattle.sf_tables.proofs.BoxLengths.{length-of_chunks}
use Rattle.sf_tables.proofs.Tiling.{near_tiled, wide_tiled, near_size, wide_size}
use Rattle.sf_tables.proofs.encoding.put_of_chunks.Goals as goal

pub put_stsc-requires-clause-size : goal.put_stsc-requires-clause-size
put_stsc-requires-clause-size c = omega (arith, length-of_chunks (places_kept c.args.chunks.now) (counts_kept c.args.chunks.now), c.requires.totals.spreads, c.requires.size)

pub put_stco-requires-clause-size : goal.put_stco-requires-clause-size
put_stco-requires-clause-size c =
    let near : all_near (places_kept c.args.chunks.now) ≡ true = sym c.requires.totals.near ∙ c.if-totals.true in
    omega (arith, near_size (places_kept c.args.chunks.now) (counts_kept c.args.chunks.now) near, length-map c.args.chunks.now (λ (k : KeptChunk). k.place), c.requires.size)

pub put_co64-requires : goal.put_co64-requires
put_co64-requires c =
    let wide : all_near (places_kept c.args.chunks.now) ≡ false = sym c.requires.totals.near ∙ c.if-totals.false in
    omega (arith, wide_size (places_kept c.args.chunks.now) (counts_kept c.args.chunks.now) wide, length-map c.args.chunks.now (λ (k : KeptChunk). k.place), c.requires.size)

pub returns-then-totals-clause-put : goal.returns-then-totals-clause-put
returns-then-totals-clause-put c =
    let near : all_near (places_kept c.args.chunks.now) ≡ true = sym c.requires.totals.near ∙ c.if-totals.true in
    rw (near_tiled c.args.out.now (places_kept c.args.chunks.now) (counts_kept c.args.chunks.now) near, ← c.in_ok-put_stsc.ensures.put) c.put_stco.ensures.put

pub returns-else-totals-clause-put : goal.returns-else-totals-clause-put
returns-else-totals-clause-put c =
    let wide : all_near (places_kept c.args.chunks.now) ≡ false = sym c.requires.totals.near ∙ c.if-totals.false in
    rw (wide_tiled c.args.out.now (places_kept c.args.chunks.now) (counts_kept c.args.chunks.now) wide, ← c.in_ok-put_stsc.ensures.put) c.put_co64.ensures.put
