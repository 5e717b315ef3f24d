use Rattle.std.proofs.Common.{◌≡◌, drop, take}
use Rattle.sf_meaning.specs.inner.Entries.{spreads_as}
use Rattle.sf_meaning.specs.Tables.{chunk_entries, described, spread_over}
use Rattle.sf_meaning.specs.TrackSamples.{descriptions_known}
use Rattle.sf_meaning.proofs.track_samples.known_descriptions.Given as goal

abbrev pub invariant-loop-r : goal.invariant-loop-r
invariant-loop-r l =
    descriptions_known l.at l.entries (take l.left (described (take l.room (spread_over (spreads_as (drop l.r l.runs)) l.chunks))))
    ≡ descriptions_known l.at l.entries (take l.count (described (chunk_entries (spreads_as l.runs) l.chunks)))
