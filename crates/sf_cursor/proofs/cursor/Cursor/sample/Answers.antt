use Rattle.std.proofs.Common.{◌≡◌, ℕ, ℤ, pos, ◌+ℤ◌, ◌<◌, List, length, get_or, Some, refl, sym, ap, ◌∙◌, subst, rules}
use Rattle.std.specs.List.{slice_get}
use Rattle.std.proofs.lemmas.Int.{to_z-of_z}
use mir.Syntax.{w64}
use mir.Val.{SFits, to_z, of_z}
use Rattle.sf_meaning.specs.inner.TrackTables.{tables_view}
use Rattle.sf_meaning.specs.ReadTables.{sizes_view}
use Rattle.sf_meaning.specs.TrackSamples.{Tables, listed}
use Rattle.sf_meaning.specs.declared.entries.ChunkAt.{ChunkAt}
use Rattle.sf_meaning.specs.declared.entries.ChunkRun.{ChunkRun}
use Rattle.sf_meaning.specs.declared.movie.PlainSample.{PlainSample}
use Rattle.sf_cursor.specs.Cursor.{HasPlace}
use Rattle.sf_cursor.specs.inner.Sound.{IsInChunk}
use Rattle.sf_cursor.proofs.OneSample.{Law, chunks_reach, times_reach, place_fits, put_together, first_left}
use Rattle.sf_cursor.proofs.cursor.Cursor.sample.Goals as goal

pub chunk_of-earlier-requires-clause-reach : goal.chunk_of-earlier-requires-clause-reach
chunk_of-earlier-requires-clause-reach c =
    let t = c.self.inside.tables in
    let lt : c.args.i < length (sizes_view t.sizes) = subst (λ (x : Tables). c.args.i < length x.sizes) (sym c.self.view_is) c.requires.there in
    rw c.as_slice.ensures (chunks_reach t c.self.invariant.sound c.args.i lt)

pub decode_at-decode-requires-clause-reach : goal.decode_at-decode-requires-clause-reach
decode_at-decode-requires-clause-reach c =
    let t = c.self.inside.tables in
    let lt : c.args.i < length (sizes_view t.sizes) = subst (λ (x : Tables). c.args.i < length x.sizes) (sym c.self.view_is) c.requires.there in
    rw c.as_slice-3.ensures (times_reach t c.self.invariant.sound c.args.i lt)

pub place_at-requires-clause-fits : goal.place_at-requires-clause-fits
place_at-requires-clause-fits c =
    let t = c.self.inside.tables in
    let lt : c.args.i < length (sizes_view t.sizes) = subst (λ (x : Tables). c.args.i < length x.sizes) (sym c.self.view_is) c.requires.there in
    let has : HasPlace (tables_view t) c.args.i = subst (λ (x : Tables). HasPlace x c.args.i) (sym c.self.view_is) c.requires.place in
    let law : Law = record { each = c.samples_one_by_one.ensures.each; all = c.samples_one_by_one.ensures.all } in
    let chunk : ChunkAt = c.chunk_of-earlier.result.0 in
    let earlier : ℕ = c.chunk_of-earlier.result.1 in
    let is : IsInChunk t.spreads t.places c.args.i earlier chunk =
    subst (λ (rs : List ChunkRun). IsInChunk rs t.places c.args.i earlier chunk) c.as_slice.ensures c.chunk_of-earlier.ensures.chunk in
    place_fits law t c.self.invariant.sound c.args.i earlier chunk is lt has

pub returns-clause-listed : goal.returns-clause-listed
returns-clause-listed c =
    let t = c.self.inside.tables in
    let lt : c.args.i < length (sizes_view t.sizes) = subst (λ (x : Tables). c.args.i < length x.sizes) (sym c.self.view_is) c.requires.there in
    let law : Law = record { each = c.samples_one_by_one.ensures.each; all = c.samples_one_by_one.ensures.all } in
    let chunk : ChunkAt = c.chunk_of-earlier.result.0 in
    let earlier : ℕ = c.chunk_of-earlier.result.1 in
    let is : IsInChunk t.spreads t.places c.args.i earlier chunk =
    subst (λ (rs : List ChunkRun). IsInChunk rs t.places c.args.i earlier chunk) c.as_slice.ensures c.chunk_of-earlier.ensures.chunk in
    let fits : SFits w64 c.offset_at-offset.result = search rules in
    let shown : SFits w64 c.compose_at.result = search rules in
    let offset : c.offset_at-offset.result ≡ get_or (tables_view t).offsets c.args.i (pos 0) = rw c.as_slice-6.ensures at c.offset_at-offset.ensures.exact in
    let compose : to_z w64 (of_z w64 c.compose_at.result) ≡ pos c.decode_at-decode.result +ℤ get_or (tables_view t).offsets c.args.i (pos 0) =
    to_z-of_z w64 c.compose_at.result shown ∙ c.compose_at.ensures
    ∙ ap (λ (z : ℤ). pos c.decode_at-decode.result +ℤ z) (to_z-of_z w64 c.offset_at-offset.result fits ∙ offset) in
    let a : PlainSample = record {
      decode = c.decode_at-decode.result;
      compose = to_z w64 (of_z w64 c.compose_at.result);
      sync = c.is_sync.result;
      place = c.place_at.result;
      size = c.size_at.result;
      description = chunk.description;
    } in
    let whole = put_together law t c.self.invariant.sound c.args.i earlier chunk is lt a
    (rw c.as_slice-3.ensures at c.decode_at-decode.ensures.exact)
    compose
    c.is_sync.ensures
    c.place_at.ensures
    (first_left (sizes_view t.sizes) c.args.i c.size_at.result _ c.size_at.ensures)
    refl in
    subst (λ (x : Tables). slice_get (listed x) c.args.i ≡ Some a) c.self.view_is whole
