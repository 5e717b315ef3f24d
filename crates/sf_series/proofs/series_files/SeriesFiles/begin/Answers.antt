use Rattle.std.proofs.Common.{rules, ◌≡◌, ℕ, true, false, List, [], length, replicate, Some, None, refl, sym, ap, ◌∙◌, arith}
use Rattle.std.specs.Prelude.{slice_get}
use Rattle.std.proofs.lemmas.List.{get_or-replicate, length-replicate}
use Rattle.std.proofs.lemmas.Option.{slice_get-get_or}
use Rattle.sf_entry.specs.declared.track_setup.TrackSetup.{TrackSetup}
use Rattle.sf_layout.specs.Layout.{layout}
use Rattle.sf_series.specs.declared.limits.LimitShown.TheVariants.{Nothing}
use Rattle.sf_series.specs.Series.{OpenFiles}
use Rattle.sf_series.specs.Switching.{closed_length, passes}
use Rattle.sf_series.proofs.Kept.{closed_none}
use Rattle.sf_series.proofs.series_files.SeriesFiles.begin.Goals as goal

pub returns-then-passes-clause-nothing : goal.returns-then-passes-clause-nothing
returns-then-passes-clause-nothing g c shown e =
    let size : c.size-size.result ≡ closed_length c.args.setups.items [] =
    c.size-size.ensures.whole _ [] c.in-Ok.ensures.stands ∙ ap (λ (ss : List TrackSetup). length (layout ss [])) (c.in-Ok.ensures.setups ∙ c.deref.ensures.value) in
    let same : Nothing c.size-size.result c.args.limits.max_bytes ≡ shown = cc in (
      record {
        passed = ap (λ (n : ℕ). passes c.args.limits.max_bytes n) (sym size) ∙ sym c.passes.ensures ∙ c.if-passes.true;
        numbers = sym same ∙ ap (λ (n : ℕ). Nothing n c.args.limits.max_bytes) size;
      },
      refl,
    )

pub returns-in_err-make-clause-passed : goal.returns-in_err-make-clause-passed
returns-in_err-make-clause-passed g c e =
    let size : c.size-size.result ≡ closed_length c.args.setups.items [] =
    c.size-size.ensures.whole _ [] c.in-Ok.ensures.stands ∙ ap (λ (ss : List TrackSetup). length (layout ss [])) (c.in-Ok.ensures.setups ∙ c.deref.ensures.value) in
    let wrong : true ≡ false = sym e ∙ ap (λ (n : ℕ). passes c.args.limits.max_bytes n) (sym size) ∙ sym c.passes.ensures ∙ c.if-passes.false in
    absurd cc

pub returns-clause-passed : goal.returns-clause-passed
returns-clause-passed g c e =
    let size : c.size-size.result ≡ closed_length c.args.setups.items [] =
    c.size-size.ensures.whole _ [] c.in-Ok.ensures.stands ∙ ap (λ (ss : List TrackSetup). length (layout ss [])) (c.in-Ok.ensures.setups ∙ c.deref.ensures.value) in
    let wrong : true ≡ false = sym e ∙ ap (λ (n : ℕ). passes c.args.limits.max_bytes n) (sym size) ∙ sym c.passes.ensures ∙ c.if-passes.false in
    absurd cc

pub returns-clause-stands : goal.returns-clause-stands
returns-clause-stands g c =
    let n : ℕ = length c.args.setups.items in
    let counts : c.in_ok-counts.counts.items ≡ replicate n 0 = search rules in
    let kept : OpenFiles = record { setups = c.args.setups.items; limits = c.args.limits; counts = c.in_ok-counts.counts.items; closed = c.new-2.result.items; file = None } in
    c.in_ok-make.ensures.stands _ [] (closed_none (g.O.Shelf.seen c.args.shelf.now) kept c.new-2.ensures.items (λ t less.
    ap (λ (ns : List ℕ). slice_get ns t) counts ∙ slice_get-get_or {X = ℕ} (replicate n 0) t 0 (omega (arith, less, length-replicate {A = ℕ} n 0)) ∙ ap (λ (m : ℕ). Some m) (get_or-replicate {A = ℕ} n t 0 0 less)))
