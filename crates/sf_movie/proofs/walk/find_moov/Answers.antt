use Rattle.std.proofs.Common.{Err, codes, rules}
use Rattle.sf_box.specs.declared.types.BoxHead.{BoxHead}
use Rattle.sf_meaning.specs.Steps.{of_kind}
use Rattle.sf_movie.specs.Loads.{Reads}
use Rattle.sf_movie.specs.inner.Walk.{box_at, moov_of}
use Rattle.sf_movie.proofs.MovieBoxes.{moov_found, moov_wrong, told_length}
use Rattle.sf_movie.proofs.walk.find_moov.Goals as goal

pub returns-in_err-moovs-clause-reads : goal.returns-in_err-moovs-clause-reads
returns-in_err-moovs-clause-reads g c =
    λ file told.
    let stop : Reads {A = BoxHead} (λ h. box_at h file) (Err c.in_err-moovs.field-0.0) (moov_of file) = moov_wrong file c.in_err-moovs.field-0.0 (c.in_err-moovs.ensures.meets file told) in
    search (rules, stop)

pub returns-in-Ok-clause-reads : goal.returns-in-Ok-clause-reads
returns-in-Ok-clause-reads g c =
    λ file told.
    let m = c.in_ok-moovs.ensures.meets file told in
    moov_found file m.0 c.args.end _ m.1 (told_length (g.S.Source.seen c.args.source.now).content c.args.end file c.requires.told told)
    (c.in-Ok.ensures.only file (of_kind (codes "moov") m.0) m.2)

pub returns-in-Err-clause-reads : goal.returns-in-Err-clause-reads
returns-in-Err-clause-reads g c =
    λ file told.
    let m = c.in_ok-moovs.ensures.meets file told in
    moov_found file m.0 c.args.end _ m.1 (told_length (g.S.Source.seen c.args.source.now).content c.args.end file c.requires.told told)
    (c.in-Err.ensures.only file (of_kind (codes "moov") m.0) m.2)
