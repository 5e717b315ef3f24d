use Rattle.std.proofs.Common.{◌≡◌, ℕ, List, [], ◌∷◌, ◌++◌, Option, Some, None, refl, sym, ap, subst, ◌∙◌}
use Rattle.sf_file.specs.Open.{OpenFile}
use Rattle.sf_series.specs.Series.{FilesStand, OpenFiles}
use Rattle.sf_series.specs.inner.Writing.{CountsFit}
use Rattle.sf_series.proofs.Answers.{of_some, on_err}
use Rattle.sf_series.proofs.Kept.{broken_stands, closed_stands}
use Rattle.sf_series.proofs.SoundFiles.{fit_closed}
use Rattle.sf_series.proofs.series_files.SeriesFiles.close.Goals as goal

pub returns-in_err-close_file-clause-broken : goal.returns-in_err-close_file-clause-broken
returns-in_err-close_file-clause-broken g c =
    on_err c.from_residual.result _ (λ begun files s.
    broken_stands c.in-Some.file (subst (λ (k : OpenFiles). FilesStand begun files k (g.O.Shelf.seen c.args.shelf.now)) (sym c.self.view_is) s) (sym c.take.ensures.value ∙ c.in-Some.is)
    (record { setups = refl; limits = refl; counts = refl; closed = c.reserve.ensures.items }) c.take.ensures.after c.in_err-close_file.ensures.kept)

pub returns-clause-closed : goal.returns-clause-closed
returns-clause-closed g c begun files s =
    closed_stands c.in-Some.file c.size-size.result (subst (λ (k : OpenFiles). FilesStand begun files k (g.O.Shelf.seen c.args.shelf.now)) (sym c.self.view_is) s) (sym c.take.ensures.value ∙ c.in-Some.is)
    refl refl refl (c.push_reserved.ensures.items ∙ ap (λ (ns : List ℕ). ns ++ c.size-size.result ∷ []) c.reserve.ensures.items) c.size-size.ensures.whole c.in_ok-close_file.ensures.closed

pub returns-clause-counts : goal.returns-clause-counts
returns-clause-counts g c =
    let is : c.self.inside.file ≡ Some c.in-Some.file = sym c.take.ensures.value ∙ c.in-Some.is in
    let own = of_some c.in-Some.file _ is c.self.invariant.file in
    let counts = subst (λ (o : Option OpenFile). CountsFit c.self.inside.counts.items c.self.inside.closed.items o) is own.2 in
    let closed = c.push_reserved.ensures.items ∙ ap (λ (ns : List ℕ). ns ++ c.size-size.result ∷ []) c.reserve.ensures.items in
    subst (λ (ns : List ℕ). CountsFit c.self.inside.counts.items ns None) (sym closed)
    (fit_closed c.self.inside.setups.items c.self.inside.counts.items c.self.inside.closed.items c.size-size.result c.in-Some.file own.0 counts)
