use Rattle.std.proofs.Common.{◌≡◌, ℕ, ◌+◌, ◌<◌, length, set, Option, Some, refl, sym, ap, subst, ◌∙◌, arith}
use Rattle.std.specs.Prelude.{slice_get}
use Rattle.std.proofs.lemmas.List.{length-set}
use Rattle.std.proofs.lemmas.Option.{slice_get_read}
use Rattle.sf_file.specs.Open.{OpenFile}
use Rattle.sf_series.specs.Series.{FilesStand, OpenFiles}
use Rattle.sf_series.specs.inner.Writing.{CountsFit}
use Rattle.sf_series.proofs.Answers.{of_some}
use Rattle.sf_series.proofs.Kept.{appended_stands}
use Rattle.sf_series.proofs.SoundFiles.{fit_grown, grown_open, put_inside}
use Rattle.sf_series.proofs.series_files.SeriesFiles.append.Goals as goal

pub invariant_of-self : goal.invariant_of-self
invariant_of-self g c =
    let i = c.self.invariant in
    let file = c.in-Some.file in
    let chunk = c.args.chunk.now in
    let counts = c.self.inside.counts.items in
    let is : c.self.inside.file ≡ Some file = sym c.take.ensures.value ∙ c.in-Some.is in
    let now : c.args.self.now.file ≡ Some file = ap (λ (k : OpenFiles). k.file) (sym c.self.view_is) ∙ is in
    let own = of_some file _ is i.file in
    let fit = subst (λ (o : Option OpenFile). CountsFit counts c.self.inside.closed.items o) is own.2 in
    let put = of_some file _ now c.requires.can_put in
    let room = of_some file _ now c.requires.room in
    let inside : chunk.track < length counts = omega (arith, put_inside own.0 put, i.tracks) in
    let at : slice_get counts chunk.track ≡ Some c.index_mut.result.now = slice_get_read counts (length counts) chunk.track c.index_mut.result.now refl inside c.index_mut.ensures.value in
    record {
      setups = i.setups;
      limits = i.limits;
      tracks = omega (arith, length-set counts chunk.track (c.index_mut.result.now + c.len.result), i.tracks);
      empty_setups = i.empty_setups;
      empty_stands = i.empty_stands;
      few = i.few;
      file = (
        grown_open chunk own.0 room c.in-Ok.ensures.tracks,
        own.1,
        subst (λ (n : ℕ). CountsFit (set counts chunk.track (c.index_mut.result.now + n)) c.self.inside.closed.items (Some c.append.new.self)) (sym c.len.ensures)
            (fit_grown counts c.self.inside.closed.items file c.append.new.self chunk c.index_mut.result.now put c.in-Ok.ensures.tracks at fit),
      );
    }

pub returns-in-Ok-clause-done : goal.returns-in-Ok-clause-done
returns-in-Ok-clause-done g c begun files s =
    let i = c.self.invariant in
    let file = c.in-Some.file in
    let chunk = c.args.chunk.now in
    let counts = c.self.inside.counts.items in
    let is : c.self.inside.file ≡ Some file = sym c.take.ensures.value ∙ c.in-Some.is in
    let now : c.args.self.now.file ≡ Some file = ap (λ (k : OpenFiles). k.file) (sym c.self.view_is) ∙ is in
    let own = of_some file _ is i.file in
    let put = of_some file _ now c.requires.can_put in
    let inside : chunk.track < length counts = omega (arith, put_inside own.0 put, i.tracks) in
    let at : slice_get counts chunk.track ≡ Some c.index_mut.result.now = slice_get_read counts (length counts) chunk.track c.index_mut.result.now refl inside c.index_mut.ensures.value in
    appended_stands file c.append.new.self chunk (subst (λ (k : OpenFiles). FilesStand begun files k (g.O.Shelf.seen c.args.shelf.now)) (sym c.self.view_is) s) is
    refl refl refl refl (put_inside own.0 put)
    (λ n e. let both : Some c.index_mut.result.now ≡ Some n = sym at ∙ e in let same : c.index_mut.result.now ≡ n = cc in
    ap (λ (m : ℕ). set counts chunk.track m) (omega (arith, same, c.len.ensures)))
    c.in-Ok.ensures.setups c.in-Ok.ensures.stands
