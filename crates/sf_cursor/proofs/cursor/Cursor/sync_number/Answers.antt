use Rattle.std.proofs.Common.{◌≡◌, ℕ, ◌<◌, length, get_or, sym, subst, ◌∙◌}
use Rattle.sf_meaning.specs.inner.TrackTables.{tables_view}
use Rattle.sf_meaning.specs.TrackSamples.{Tables, listed}
use Rattle.sf_cursor.specs.Cursor.{numbers_in}
use Rattle.sf_cursor.proofs.OneSample.{Law}
use Rattle.sf_cursor.proofs.SyncSamples.{is_told, syncs_listed, told_is}
use Rattle.sf_cursor.proofs.cursor.Cursor.sync_number.Goals as goal

pub sync_number-requires : goal.sync_number-requires
sync_number-requires c =
    let t = c.self.inside.tables in
    let law : Law = record { each = c.samples_one_by_one.ensures.each; all = c.samples_one_by_one.ensures.all } in
    let lt : c.args.k < length (numbers_in 0 (listed (tables_view t))) = subst (λ (x : Tables). c.args.k < length (numbers_in 0 (listed x))) (sym c.self.view_is) c.requires in
    is_told t.sync (length (listed (tables_view t))) (numbers_in 0 (listed (tables_view t))) c.args.k (syncs_listed law t c.self.invariant.sound) lt

pub returns-clause-exact : goal.returns-clause-exact
returns-clause-exact c =
    let t = c.self.inside.tables in
    let law : Law = record { each = c.samples_one_by_one.ensures.each; all = c.samples_one_by_one.ensures.all } in
    let lt : c.args.k < length (numbers_in 0 (listed (tables_view t))) = subst (λ (x : Tables). c.args.k < length (numbers_in 0 (listed x))) (sym c.self.view_is) c.requires in
    let is = told_is t.sync (length (listed (tables_view t))) (numbers_in 0 (listed (tables_view t))) c.args.k (syncs_listed law t c.self.invariant.sound) lt in
    subst (λ (x : Tables). c.sync_number.result ≡ get_or (numbers_in 0 (listed x)) c.args.k 0) c.self.view_is (c.sync_number.ensures ∙ is.0)

pub returns-clause-there : goal.returns-clause-there
returns-clause-there c =
    let t = c.self.inside.tables in
    let law : Law = record { each = c.samples_one_by_one.ensures.each; all = c.samples_one_by_one.ensures.all } in
    let lt : c.args.k < length (numbers_in 0 (listed (tables_view t))) = subst (λ (x : Tables). c.args.k < length (numbers_in 0 (listed x))) (sym c.self.view_is) c.requires in
    let is = told_is t.sync (length (listed (tables_view t))) (numbers_in 0 (listed (tables_view t))) c.args.k (syncs_listed law t c.self.invariant.sound) lt in
    subst (λ (x : Tables). c.sync_number.result < length (listed x)) c.self.view_is (subst (λ (n : ℕ). n < length (listed (tables_view t))) (sym (c.sync_number.ensures ∙ is.0)) is.1)
