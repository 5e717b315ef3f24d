use Rattle.std.proofs.Common.{◌≡◌, drop}
use Rattle.sf_box.specs.Reading.{pieces_at}
use Rattle.sf_entry.specs.Stsd.{entries_in}
use Rattle.sf_entry.proofs.EntryLemmas.{with_entries}
use Rattle.sf_entry.proofs.stsd.read_entries.Given as goal

abbrev pub invariant-loop-head : goal.invariant-loop-head
invariant-loop-head l = with_entries l.entries (entries_in (pieces_at l.base l.bytes (drop l.head-index l.heads))) ≡ entries_in (pieces_at l.base l.bytes l.heads)
