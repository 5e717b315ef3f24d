use Rattle.std.proofs.Common.{◌≡◌, length, sym, subst, ◌∙◌}
use Rattle.sf_meaning.specs.inner.TrackTables.{tables_view}
use Rattle.sf_meaning.specs.TrackSamples.{Tables, listed}
use Rattle.sf_cursor.proofs.OneSample.{all_listed}
use Rattle.sf_cursor.proofs.cursor.Cursor.count.Goals as goal

pub returns-clause-samples : goal.returns-clause-samples
returns-clause-samples c =
    let t : Tables = tables_view c.self.inside.tables in
    let many : length (listed t) ≡ length t.sizes = c.samples_one_by_one.ensures.all c.self.invariant.sound.scale c.self.invariant.sound.entries t (listed t)
    (all_listed c.self.invariant.sound.scale c.self.invariant.sound.entries t c.self.invariant.sound.said) in
    subst (λ (x : Tables). c.from.result ≡ length (listed x)) c.self.view_is (c.from.ensures ∙ c.count_of.ensures ∙ sym many)
