use Rattle.std.proofs.Common.{rules, ◌≡◌, ℕ, ◌+◌, List, [], length, refl, sym, ap, subst, inl, arith}
use Rattle.sf_world.specs.Views.{KeptAtMost}
use Rattle.sf_series.specs.Names.{file_name}
use Rattle.sf_entry.specs.declared.track_setup.TrackSetup.{TrackSetup}
use Rattle.sf_series.specs.Series.{FilesClosed, HoldsOn, OpenFiles}
use Rattle.sf_series.specs.Shelved.{IsMade}
use Rattle.sf_series.specs.inner.Writing.{IsFresh}
use Rattle.sf_series.proofs.Answers.{on_err}
use Rattle.sf_series.proofs.Kept.{made_breaks, made_stands}
use Rattle.sf_series.proofs.SoundFiles.{fit_made, fresh_holds, fresh_open}
use Rattle.sf_series.proofs.series_files.SeriesFiles.make.Goals as goal

pub returns-in_err-name-clause-stands : goal.returns-in_err-name-clause-stands
returns-in_err-name-clause-stands g c begun files s =
    made_breaks s (record { setups = refl; limits = refl; counts = refl; closed = refl }) c.requires.none (inl (record { named = refl; kept = refl }))

pub returns-in_err-file-clause-stands : goal.returns-in_err-file-clause-stands
returns-in_err-file-clause-stands g c begun files s =
    let name : c.as_str-2.result.now ≡ file_name c.args.self.now.limits.stem (length c.args.self.now.closed + 1) = search rules in
    made_breaks s (record { setups = refl; limits = refl; counts = refl; closed = refl }) c.requires.none
    (subst (λ (n : List ℕ). KeptAtMost n (g.O.Shelf.seen c.args.shelf.now) (g.O.Shelf.seen c.make_file.new.shelf)) name c.in_err-file.ensures.kept)

pub returns-clause-stands : goal.returns-clause-stands
returns-clause-stands g c begun files s =
    let name : c.as_str-2.result.now ≡ file_name c.self.inside.limits.stem (length c.self.inside.closed.items + 1) = search rules in
    made_stands c.in_ok-file.file (subst (λ (k : OpenFiles). FilesClosed begun files k (g.O.Shelf.seen c.args.shelf.now)) (sym c.self.view_is) s)
    (record { setups = refl; limits = refl; counts = refl; closed = refl }) refl (subst (λ (ss : List TrackSetup). HoldsOn (g.O.Shelf.seen c.args.shelf.now).files ss [] c.in_ok-file.file) c.deref.ensures.value c.in_ok-file.ensures.stands)
    (subst (λ (n : List ℕ). IsMade n (g.O.Shelf.seen c.args.shelf.now) (g.O.Shelf.seen c.make_file.new.shelf)) name c.in_ok-file.ensures.made)

pub invariant_of-self : goal.invariant_of-self
invariant_of-self g c =
    let i = c.self.invariant in
    let more = ap (λ (k : OpenFiles). length k.closed) c.self.view_is in
    let most = ap (λ (k : OpenFiles). k.limits.max_files) c.self.view_is in
    record {
      setups = i.setups;
      limits = i.limits;
      tracks = i.tracks;
      empty_setups = i.empty_setups;
      empty_stands = i.empty_stands;
      few = i.few;
      file = (
        fresh_open c.self.inside.setups.items c.in_ok-file.file (subst (λ (ss : List TrackSetup). IsFresh ss c.in_ok-file.file) c.deref.ensures.value (fresh_holds c.in_ok-file.ensures.stands)),
        omega (arith, c.requires.more, more, most),
        fit_made c.self.inside.counts.items c.self.inside.closed.items c.in_ok-file.file (search rules),
      );
    }

pub returns-in_err-file-clause-kept : goal.returns-in_err-file-clause-kept
returns-in_err-file-clause-kept g c =
    let name : c.as_str-2.result.now ≡ file_name c.args.self.now.limits.stem (length c.args.self.now.closed + 1) = search rules in
    on_err c.from_residual-in_err-file.result _ (subst (λ (n : List ℕ). KeptAtMost n (g.O.Shelf.seen c.args.shelf.now) (g.O.Shelf.seen c.make_file.new.shelf)) name c.in_err-file.ensures.kept)
