use Rattle.std.proofs.Common.{◌≡◌, length}
use Rattle.sf_meaning.specs.inner.TrackTables.{tables_view}
use Rattle.sf_meaning.specs.ReadTables.{sizes_view}
use Rattle.sf_meaning.specs.TrackSamples.{listed}
use Rattle.sf_meaning.specs.Tracks.{held_in}
use Rattle.sf_cursor.specs.inner.Held.{AreInChunks}
use Rattle.sf_cursor.specs.inner.Sound.{counts_in}
use Rattle.sf_cursor.proofs.HeldSamples.{all_places}
use Rattle.sf_cursor.proofs.OneSample.{Law, all_reached, all_there, in_chunks}
use Rattle.sf_cursor.proofs.tables.tables_held.Goals as goal

pub chunks_held-requires-clause-reach : goal.chunks_held-requires-clause-reach
chunks_held-requires-clause-reach c = rw c.as_slice.ensures (all_reached c.args.tables.now c.requires)

pub returns-clause-held : goal.returns-clause-held
returns-clause-held c =
    let law : Law = record { each = c.samples_one_by_one.ensures.each; all = c.samples_one_by_one.ensures.all } in
    let t = c.args.tables.now in
    let all : AreInChunks (counts_in c.as_slice.result.now (length t.places)) t.places (sizes_view t.sizes) (listed (tables_view t)) =
    rw c.as_slice.ensures (in_chunks law t c.requires) in
    c.chunks_held.ensures (listed (tables_view t)) (all_there law t c.requires) all

pub returns-clause-places : goal.returns-clause-places
returns-clause-places c =
    let law : Law = record { each = c.samples_one_by_one.ensures.each; all = c.samples_one_by_one.ensures.all } in
    let t = c.args.tables.now in
    let all : AreInChunks (counts_in c.as_slice.result.now (length t.places)) t.places (sizes_view t.sizes) (listed (tables_view t)) =
    rw c.as_slice.ensures (in_chunks law t c.requires) in
    let is : c.chunks_held.result ≡ held_in c.args.bytes c.args.track 0 (listed (tables_view t)) =
    c.chunks_held.ensures (listed (tables_view t)) (all_there law t c.requires) all in
    all_places c.chunks_held.result c.args.bytes c.args.track (listed (tables_view t)) is c.ranges.bytes.fits
