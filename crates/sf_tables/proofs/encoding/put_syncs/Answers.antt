use Rattle.std.proofs.Common.{◌≡◌, true, false, map, sym, ◌∙◌, arith}
use Rattle.std.proofs.lemmas.List.{append-nil}
use Rattle.sf_meaning.specs.Stbl.{all_sync}
use Rattle.sf_tables.specs.inner.Kept.{timed_kept}
use Rattle.sf_tables.proofs.Tiling.{no_stss, one_stss, stss_size}
use Rattle.sf_tables.proofs.encoding.put_syncs.Goals as goal

pub returns-then-totals-clause-put : goal.returns-then-totals-clause-put
returns-then-totals-clause-put c =
    let e : all_sync (map timed_kept c.args.samples.now) ≡ true = sym c.requires.totals.all_sync ∙ c.if-totals.true in
    rw (no_stss (map timed_kept c.args.samples.now) e) (sym (append-nil c.args.out.now))

pub put_stss-requires-clause-size : goal.put_stss-requires-clause-size
put_stss-requires-clause-size c =
    let e : all_sync (map timed_kept c.args.samples.now) ≡ false = sym c.requires.totals.all_sync ∙ c.if-totals.false in
    omega (arith, stss_size (map timed_kept c.args.samples.now) e, c.requires.totals.syncs, c.requires.size)

pub returns-clause-put : goal.returns-clause-put
returns-clause-put c =
    let e : all_sync (map timed_kept c.args.samples.now) ≡ false = sym c.requires.totals.all_sync ∙ c.if-totals.false in
    rw (one_stss (map timed_kept c.args.samples.now) e) c.put_stss.ensures.put
