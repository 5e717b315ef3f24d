use Rattle.std.proofs.Common.{◌≡◌, ◌≤◌, take}
use Rattle.sf_app.specs.ListText.{sync_count}
use Rattle.sf_app.specs.inner.Listing.{track_at}
use Rattle.sf_app.proofs.list_text.sync_count.Given as goal

abbrev pub invariant-loop-number : goal.invariant-loop-number
invariant-loop-number l = record {
  few : l.syncs ≤ l.number;
  counted : l.syncs ≡ sync_count (take l.number (track_at l.movie.movie l.track).samples);
}
