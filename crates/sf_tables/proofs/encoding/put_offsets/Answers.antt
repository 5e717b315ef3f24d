use Rattle.std.proofs.Common.{◌≡◌, true, false, map, sym, ◌∙◌, arith}
use Rattle.std.proofs.lemmas.List.{append-nil}
use Rattle.sf_meaning.specs.Stbl.{all_in_time}
use Rattle.sf_tables.specs.inner.Kept.{timed_kept}
use Rattle.sf_tables.proofs.Tiling.{no_ctts, one_ctts, ctts_size}
use Rattle.sf_tables.proofs.encoding.put_offsets.Goals as goal

pub returns-then-totals-clause-put : goal.returns-then-totals-clause-put
returns-then-totals-clause-put c =
    let e : all_in_time (map timed_kept c.args.samples.now) ≡ true = sym c.requires.totals.in_time ∙ c.if-totals.true in
    rw (no_ctts (map timed_kept c.args.samples.now) e) (sym (append-nil c.args.out.now))

pub put_ctts-requires-clause-size : goal.put_ctts-requires-clause-size
put_ctts-requires-clause-size c =
    let e : all_in_time (map timed_kept c.args.samples.now) ≡ false = sym c.requires.totals.in_time ∙ c.if-totals.false in
    omega (arith, ctts_size (map timed_kept c.args.samples.now) e, c.requires.totals.offset_runs, c.requires.size)

pub returns-clause-put : goal.returns-clause-put
returns-clause-put c =
    let e : all_in_time (map timed_kept c.args.samples.now) ≡ false = sym c.requires.totals.in_time ∙ c.if-totals.false in
    rw (one_ctts (map timed_kept c.args.samples.now) e, ← c.requires.totals.none_early) c.put_ctts.ensures.put
