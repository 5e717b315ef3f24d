use Rattle.std.proofs.Common.{◌≡◌, min, List, length, take, drop, sum}
use Rattle.sf_meaning.specs.ReadTables.{sizes_view}
use Rattle.sf_meaning.specs.Tracks.{held_in}
use Rattle.sf_meaning.specs.declared.movie.PlainSample.{PlainSample}
use Rattle.sf_cursor.specs.inner.Held.{AreInChunks}
use Rattle.sf_cursor.specs.inner.Sound.{HoldsUpTo, counts_in}
use Rattle.sf_cursor.proofs.held.chunks_held.Given as goal

abbrev pub invariant-loop-c : goal.invariant-loop-c
invariant-loop-c l = record {
  reached : l.from ≡ min (sum (take l.c (counts_in l.runs (length l.places)))) (length (sizes_view l.sizes));
  holds : HoldsUpTo l.runs l.r l.c;
  held : (ss : List PlainSample) → AreInChunks (counts_in l.runs (length l.places)) l.places (sizes_view l.sizes) ss
      → held_in l.bytes l.track 0 ss ≡ held_in l.bytes l.track l.from (drop l.from ss);
}
