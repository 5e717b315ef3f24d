use Rattle.std.proofs.Common.{◌≡◌, ℕ, ℤ, pos, ◌+ℤ◌, ◌<◌, length, get_or, sym, ap, ◌∙◌, subst, rules}
use Rattle.std.proofs.lemmas.Int.{to_z-of_z}
use mir.Syntax.{w64}
use mir.Val.{SFits, to_z, of_z}
use Rattle.sf_meaning.specs.inner.TrackTables.{tables_view}
use Rattle.sf_meaning.specs.ReadTables.{sizes_view}
use Rattle.sf_meaning.specs.TrackSamples.{Tables}
use Rattle.sf_cursor.specs.Cursor.{IsComposed}
use Rattle.sf_cursor.proofs.OneSample.{Law, composed_is, times_reach}
use Rattle.sf_cursor.proofs.cursor.Cursor.composed.Goals as goal

pub decode_at-decode-requires-clause-reach : goal.decode_at-decode-requires-clause-reach
decode_at-decode-requires-clause-reach c =
    let t = c.self.inside.tables in
    let lt : c.args.i < length (sizes_view t.sizes) = subst (λ (x : Tables). c.args.i < length x.sizes) (sym c.self.view_is) c.requires in
    rw c.as_slice.ensures (times_reach t c.self.invariant.sound c.args.i lt)

pub returns : goal.returns
returns c =
    let t = c.self.inside.tables in
    let lt : c.args.i < length (sizes_view t.sizes) = subst (λ (x : Tables). c.args.i < length x.sizes) (sym c.self.view_is) c.requires in
    let law : Law = record { each = c.samples_one_by_one.ensures.each; all = c.samples_one_by_one.ensures.all } in
    let fits : SFits w64 c.offset_at-offset.result = search rules in
    let shown : SFits w64 c.compose_at.result = search rules in
    let offset : c.offset_at-offset.result ≡ get_or (tables_view t).offsets c.args.i (pos 0) = rw c.as_slice-4.ensures at c.offset_at-offset.ensures.exact in
    let tick : to_z w64 (of_z w64 c.compose_at.result) ≡ pos c.decode_at-decode.result +ℤ c.offset_at-offset.result =
    to_z-of_z w64 c.compose_at.result shown ∙ c.compose_at.ensures ∙ ap (λ (z : ℤ). pos c.decode_at-decode.result +ℤ z) (to_z-of_z w64 c.offset_at-offset.result fits) in
    subst (λ (x : Tables). IsComposed x c.args.i (to_z w64 (of_z w64 c.compose_at.result))) c.self.view_is
    (composed_is law t c.self.invariant.sound c.args.i c.decode_at-decode.result c.offset_at-offset.result (to_z w64 (of_z w64 c.compose_at.result)) lt
    (rw c.as_slice.ensures at c.decode_at-decode.ensures.exact) tick offset c.offset_at-offset.ensures.least c.offset_at-offset.ensures.most)
