use Rattle.std.proofs.Common.{sym}
use Rattle.sf_tables.proofs.BoxLengths.{length-stbl}
use Rattle.sf_tables.proofs.lengths.stbl_len.Goals as goal

pub returns-clause-exact : goal.returns-clause-exact
returns-clause-exact c = λ entry rows same s k.
    rw (c.stts_len.ensures.exact, c.ctts_len.ensures.exact, c.stss_len.ensures.exact, c.stsz_len.ensures.exact, c.stsc_len.ensures.exact, c.places_len.ensures.exact, ← same)
    (sym (length-stbl c.args.samples.now c.args.chunks.now entry rows s k))
