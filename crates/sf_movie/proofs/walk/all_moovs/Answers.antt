use Rattle.std.proofs.Common.{◌≡◌, ◌<◌, Err, length, ◌∙◌, rules, arith}
use Rattle.sf_movie.specs.inner.Walk.{Meets}
use Rattle.sf_movie.proofs.MovieBoxes.{head_ok, met_end, met_on, met_wrong, told_length}
use Rattle.sf_movie.proofs.walk.all_moovs.Goals as goal

pub returns-in_err-head-clause-meets : goal.returns-in_err-head-clause-meets
returns-in_err-head-clause-meets g c =
    λ file told.
    let len : length file ≡ c.args.end = told_length (g.S.Source.seen c.args.source.now).content c.args.end file c.requires.told told in
    let before : c.loop-at.at < length file = omega arith in
    let stop : Meets file (Err c.in_err-head.field-0.0) = met_wrong file c.loop-at.at c.loop-at.moovs c.in_err-head.field-0.0 (c.loop-at.invariant.met file told) before
    (c.in_err-head.ensures.reads file (c.loop-at.invariant.contents ∙ told)) in
    search (rules, stop)

pub loop-at-preserved : goal.loop-at-preserved
loop-at-preserved g c = record {
  place = omega (arith, c.in_ok-head.ensures.fits.ends, c.in_ok-head.ensures.place);
  size = c.in_ok-head.ensures.source.size ∙ c.loop-at.invariant.size;
  contents = c.in_ok-head.ensures.source.content ∙ c.loop-at.invariant.contents;
  later = omega (arith, c.in_ok-head.ensures.source.later, c.loop-at.invariant.later);
  fits = c.with_box-moovs.ensures.fits c.args.end c.loop-at.invariant.fits c.in_ok-head.ensures.fits;
  met = λ file told.
      met_on file c.loop-at.at c.loop-at.moovs c.with_box-moovs.result c.in_ok-head.head
      (head_ok _ _ (c.in_ok-head.ensures.reads file (c.loop-at.invariant.contents ∙ told))) c.in_ok-head.ensures.place
      (c.with_box-moovs.ensures.holds file) (c.loop-at.invariant.met file told);
}

pub returns-clause-meets : goal.returns-clause-meets
returns-clause-meets g c =
    λ file told.
    let len : length file ≡ c.args.end = told_length (g.S.Source.seen c.args.source.now).content c.args.end file c.requires.told told in
    met_end file c.loop-at.at c.loop-at.moovs (c.loop-at.invariant.met file told) (omega (arith, c.loop-at-test.false))
