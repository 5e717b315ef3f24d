use Rattle.std.proofs.Common.{◌≡◌, ◌+◌, ◌-◌, ◌≤◌, List, take, drop, sum}
use Rattle.sf_meaning.specs.ReadTables.{sizes_view}
use Rattle.sf_meaning.specs.Tracks.{held_in}
use Rattle.sf_meaning.specs.declared.movie.PlainSample.{PlainSample}
use Rattle.sf_cursor.specs.inner.Held.{AreInChunk}
use Rattle.sf_cursor.proofs.held.each_held.Given as goal

abbrev pub invariant-loop-i : goal.invariant-loop-i
invariant-loop-i l = record {
  low : l.from ≤ l.i;
  place : l.end ≡ l.place + sum (take (l.i - l.from) (drop l.from (sizes_view l.sizes)));
  held : (ss : List PlainSample) → AreInChunk l.place (sizes_view l.sizes) l.from l.count ss
      → held_in l.bytes l.track l.from (drop l.from ss) ≡ held_in l.bytes l.track l.i (drop l.i ss);
}
