use Rattle.std.proofs.Common.{◌≡◌, ℕ, ◌+◌, ◌<◌, List, length, Some, refl, sym, ap, subst, ◌∙◌, arith}
use Rattle.std.specs.Prelude.{slice_get, nat_lt}
use Rattle.std.proofs.lemmas.Option.{slice_get_read}
use Rattle.sf_entry.specs.declared.track_setup.TrackSetup.{TrackSetup}
use Rattle.sf_series.specs.Series.{FilesStand, OpenFiles}
use Rattle.sf_series.specs.Switching.{is_lead, put}
use Rattle.sf_series.proofs.Answers.{of_some}
use Rattle.sf_series.proofs.Foreseen.{foreseen}
use Rattle.sf_series.proofs.SoundFiles.{appendable, can_put_fresh, fresh_open, put_inside, stands_fresh}
use Rattle.sf_series.proofs.series_files.SeriesFiles.place.Goals as goal

pub size_with-requires-2-after_bounds : goal.size_with-requires-2-after_bounds
size_with-requires-2-after_bounds g c κs =
    let i = c.self.invariant in
    let file = c.in-Some.file in
    let is : c.self.inside.file ≡ Some file = c.in-Some.is in
    let now : c.args.self.now.file ≡ Some file = ap (λ (k : OpenFiles). k.file) (sym c.self.view_is) ∙ is in
    let own = of_some file _ is i.file in
    let put = of_some file _ now c.requires.can_put in
    let fresh = stands_fresh i.empty_setups i.empty_stands in
    appendable (fresh_open c.self.inside.setups.items c.self.inside.empty fresh) (can_put_fresh own.0.own fresh.tracks put)

pub index-requires : goal.index-requires
index-requires g c =
    let i = c.self.invariant in
    let file = c.in-Some.file in
    let is : c.self.inside.file ≡ Some file = c.in-Some.is in
    let now : c.args.self.now.file ≡ Some file = ap (λ (k : OpenFiles). k.file) (sym c.self.view_is) ∙ is in
    let own = of_some file _ is i.file in
    let put = of_some file _ now c.requires.can_put in
    omega (arith, put_inside own.0 put, i.tracks)

pub returns-clause-exact : goal.returns-clause-exact
returns-clause-exact g c begun shelf files s =
    let i = c.self.invariant in
    let file = c.in-Some.file in
    let chunk = c.args.chunk.now in
    let counts = c.self.inside.counts.items in
    let is : c.self.inside.file ≡ Some file = c.in-Some.is in
    let now : c.args.self.now.file ≡ Some file = ap (λ (k : OpenFiles). k.file) (sym c.self.view_is) ∙ is in
    let own = of_some file _ is i.file in
    let put_it = of_some file _ now c.requires.can_put in
    let inside : chunk.track < length counts = omega (arith, put_inside own.0 put_it, i.tracks) in
    let at : slice_get counts chunk.track ≡ Some c.index.result.now = slice_get_read counts (length counts) chunk.track c.index.result.now refl inside c.index.ensures in
    let leads = c.is_lead.ensures ∙ ap (λ (ss : List TrackSetup). is_lead ss chunk) c.deref.ensures.value in
    let long : c.len.result ≡ length c.self.inside.closed.items = omega (arith, c.len.ensures) in
    let most : c.from.result ≡ c.self.inside.limits.max_files = c.from.ensures in
    let more = ap (λ (n : ℕ). nat_lt (n + 1) c.from.result) long ∙ ap (λ (n : ℕ). nat_lt (length c.self.inside.closed.items + 1) n) most in
    c.place_of.ensures.exact c.self.inside.setups.items files
    (foreseen file c.self.inside.empty chunk _ (subst (λ (k : OpenFiles). FilesStand begun files k shelf) (sym c.self.view_is) s) is i.empty_setups i.empty_stands
    c.size_with.ensures.whole c.size_with-2.ensures.whole c.start_us.ensures.whole c.is_empty.ensures.whole more leads at (put_inside own.0 put_it))
    ∙ ap (λ (k : OpenFiles). put k.limits k.setups files chunk) c.self.view_is
