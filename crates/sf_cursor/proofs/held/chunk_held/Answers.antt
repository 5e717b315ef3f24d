use Rattle.std.proofs.Common.{◌≡◌, replicate, ap}
use Rattle.sf_meaning.specs.ReadTables.{sizes_view}
use Rattle.sf_cursor.proofs.HeldSamples.{uniform_held}
use Rattle.sf_cursor.proofs.held.chunk_held.Goals as goal

pub returns-then-all_within-clause-ok : goal.returns-then-all_within-clause-ok
returns-then-all_within-clause-ok c =
    let same : sizes_view c.args.sizes.now ≡ replicate c.in-Same.count c.in-Same.size = ap sizes_view c.in-Same.is in
    λ ss all.
    uniform_held c.args.bytes c.args.track c.args.place c.in-Same.count c.in-Same.size c.args.from c.args.count (sizes_view c.args.sizes.now) ss same all c.requires.within
    (c.all_within.ensures.within c.if-all_within.true) (c.all_within.ensures.short c.if-all_within.true)
