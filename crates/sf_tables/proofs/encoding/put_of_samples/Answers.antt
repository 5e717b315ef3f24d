use Rattle.std.proofs.Common.{map, sym, ◌∙◌, arith}
use Rattle.std.specs.Prelude.{None}
use Rattle.std.proofs.lemmas.List.{length-map}
use Rattle.sf_tables.specs.inner.Kept.{timed_kept}
use Rattle.sf_tables.proofs.BoxLengths.{length-of_samples, length-ctts_parts, length-stss_parts}
use Rattle.sf_tables.proofs.KeptRows.{offsets_fit}
use Rattle.sf_tables.proofs.Tiling.{listed_sizes, samples_tiled}
use Rattle.sf_tables.proofs.encoding.put_of_samples.Goals as goal

pub put_stts-requires-clause-size : goal.put_stts-requires-clause-size
put_stts-requires-clause-size c = omega (arith, length-of_samples (map timed_kept c.args.samples.now), c.requires.totals.delta_runs, c.requires.size)

pub put_offsets-requires-clause-room : goal.put_offsets-requires-clause-room
put_offsets-requires-clause-room c = offsets_fit None (map timed_kept c.args.samples.now) c.requires.room

pub put_offsets-requires-clause-size : goal.put_offsets-requires-clause-size
put_offsets-requires-clause-size c = omega (arith, length-of_samples (map timed_kept c.args.samples.now), length-ctts_parts (map timed_kept c.args.samples.now), c.requires.size)

pub put_syncs-requires-clause-size : goal.put_syncs-requires-clause-size
put_syncs-requires-clause-size c = omega (arith, length-of_samples (map timed_kept c.args.samples.now), length-stss_parts (map timed_kept c.args.samples.now), c.requires.size)

pub put_stsz-requires-clause-size : goal.put_stsz-requires-clause-size
put_stsz-requires-clause-size c = λ e.
    omega (arith, listed_sizes (map timed_kept c.args.samples.now) (sym c.requires.totals.size ∙ e), length-map c.args.samples.now timed_kept, c.requires.size)

pub returns-clause-put : goal.returns-clause-put
returns-clause-put c =
    rw (samples_tiled c.args.out.now (map timed_kept c.args.samples.now), ← c.in_ok-put_stts.ensures.put, ← c.in_ok-put_offsets.ensures.put, ← c.in_ok-put_syncs.ensures.put) c.put_stsz.ensures.put
