use Rattle.std.proofs.Common.{length, sym, ◌∙◌}
use Rattle.sf_reader.proofs.MissingLemmas.{missing_after, missing_at, missing_none}
use Rattle.sf_reader.proofs.direct.missing_in.Goals as goal

pub returns-in-Some : goal.returns-in-Some
returns-in-Some c =
    sym (missing_at (length c.args.movie.now.movie.tracks) c.loop-reader.reader c.args.plans.now c.index-plans-reader.result c.in-Some.command c.loop-reader-test.true c.index-plans-reader.is c.in-Some.ensures)
    ∙ c.loop-reader.invariant

pub loop-reader-preserved : goal.loop-reader-preserved
loop-reader-preserved c =
    sym (missing_after (length c.args.movie.now.movie.tracks) c.loop-reader.reader c.args.plans.now c.index-plans-reader.result c.loop-reader-test.true c.index-plans-reader.is (sym c.in_default.is ∙ c.missing_track.ensures))
    ∙ c.loop-reader.invariant

pub returns : goal.returns
returns c = sym (missing_none (length c.args.movie.now.movie.tracks) c.loop-reader.reader c.args.plans.now c.loop-reader-test.false) ∙ c.loop-reader.invariant
