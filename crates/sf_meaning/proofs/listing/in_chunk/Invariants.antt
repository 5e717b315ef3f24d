use Rattle.std.proofs.Common.{◌≡◌, ℕ, ◌<◌, List, length}
use Rattle.sf_meaning.specs.inner.Entries.{places_left, descriptions_left, place_count}
use Rattle.sf_meaning.proofs.listing.in_chunk.Given as goal

abbrev pub invariant-loop-now : goal.invariant-loop-now
invariant-loop-now l = record {
  some : 0 < place_count l.now;
  same : (sizes : List ℕ) → places_left l.now sizes ≡ places_left l.places sizes;
  described : descriptions_left l.now ≡ descriptions_left l.places;
  count : place_count l.now ≡ place_count l.places;
}

abbrev pub decreases-loop-now : goal.decreases-loop-now
decreases-loop-now l = length l.now.chunks.now
