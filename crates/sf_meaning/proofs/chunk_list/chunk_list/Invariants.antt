use Rattle.std.proofs.Common.{◌≡◌, ◌+◌, ◌-◌, ◌++◌, ◌∷◌, true, take, drop, length}
use Rattle.sf_meaning.specs.inner.Entries.{spreads_as, held_as_listed, places_as, from_chunk, firsts}
use Rattle.sf_meaning.specs.Tables.{chunk_entries, spread_over, rising}
use Rattle.sf_meaning.proofs.chunk_list.chunk_list.Given as goal

abbrev pub invariant-loop-i : goal.invariant-loop-i
invariant-loop-i l = record {
  held : held_as_listed l.chunks.items ++ take (l.count - l.i) (spread_over (from_chunk (l.i + 1) l.current ∷ spreads_as l.behind) l.count) ≡ chunk_entries (spreads_as l.runs) l.count;
  places : places_as l.chunks.items ++ drop l.i l.places ≡ l.places;
  many : length l.chunks.items ≡ l.i;
  rising : rising l.i (firsts l.behind) ≡ true;
}
