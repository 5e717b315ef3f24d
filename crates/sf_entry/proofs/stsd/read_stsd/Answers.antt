use Rattle.std.proofs.Common.{arith, rules}
use Rattle.sf_entry.proofs.EntryLemmas.{few_entries}
use Rattle.sf_entry.proofs.stsd.read_stsd.Goals as goal

pub returns-clause-few : goal.returns-clause-few
returns-clause-few c =
    few_entries _ c.read_u32-count.result _ c.split_at-2.result.0.now c.read_entries.result c.read_entries.ensures (omega (arith, c.split_at-2.ensures.front_len)) (search rules)
