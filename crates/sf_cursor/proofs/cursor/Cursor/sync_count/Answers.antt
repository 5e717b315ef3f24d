use Rattle.std.proofs.Common.{◌≡◌, ℕ, length, sym, subst, ◌∙◌}
use Rattle.sf_meaning.specs.inner.TrackTables.{tables_view}
use Rattle.sf_meaning.specs.TrackSamples.{Tables, listed}
use Rattle.sf_cursor.specs.Cursor.{numbers_in}
use Rattle.sf_cursor.specs.inner.Sound.{AreSyncs}
use Rattle.sf_cursor.proofs.OneSample.{Law}
use Rattle.sf_cursor.proofs.SyncSamples.{listed_length, syncs_listed}
use Rattle.sf_cursor.proofs.cursor.Cursor.sync_count.Goals as goal

pub returns : goal.returns
returns c =
    let t = c.self.inside.tables in
    let law : Law = record { each = c.samples_one_by_one.ensures.each; all = c.samples_one_by_one.ensures.all } in
    subst (λ (x : Tables). c.sync_count.result ≡ length (numbers_in 0 (listed x))) c.self.view_is
    (c.sync_count.ensures (numbers_in 0 (listed (tables_view t)))
    (subst (λ (n : ℕ). AreSyncs t.sync n (numbers_in 0 (listed (tables_view t)))) (listed_length law t c.self.invariant.sound ∙ sym c.count_of.ensures) (syncs_listed law t c.self.invariant.sound)))
