use Rattle.std.proofs.Common.{rules, ap, refl}
use Rattle.sf_box.specs.declared.types.BoxFault.{BoxFault}
use Rattle.sf_box.specs.declared.types.BoxHead.{BoxHead}
use Rattle.std.proofs.Common.{Result}
use Rattle.sf_meaning.specs.Steps.{as_fault}
use Rattle.sf_meaning.specs.declared.faults.MovieFault.TheVariants.{Tiling}
use Rattle.sf_movie.proofs.MovieBoxes.{head_told}
use Rattle.sf_movie.proofs.walk.head_at.Goals as goal

pub returns-in-Ok-read_head-clause-reads : goal.returns-in-Ok-read_head-clause-reads
returns-in-Ok-read_head-clause-reads g c =
    λ file told. ap (λ (r : Result BoxHead BoxFault). as_fault (λ (x : BoxFault). Tiling x) r)
    (head_told (g.S.Source.seen c.args.source.now).content c.args.at c.args.end c.in-Ok.count c.read_at.new.into _ file _ c.requires.told c.in-Ok.ensures.bytes
    (search rules) refl c.in-Ok-read_head.ensures.head told)

pub returns-in-Err-clause-reads : goal.returns-in-Err-clause-reads
returns-in-Err-clause-reads g c =
    λ file told. ap (λ (r : Result BoxHead BoxFault). as_fault (λ (x : BoxFault). Tiling x) r)
    (head_told (g.S.Source.seen c.args.source.now).content c.args.at c.args.end c.in-Ok.count c.read_at.new.into _ file _ c.requires.told c.in-Ok.ensures.bytes
    (search rules) refl c.in-Err.ensures.head told)
