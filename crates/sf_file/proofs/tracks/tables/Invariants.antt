use Rattle.std.proofs.Common.{◌≡◌, map, take}
use Rattle.sf_layout.specs.Layout.{stbl_of}
use Rattle.sf_file.specs.Open.{rows_in}
use Rattle.sf_file.specs.inner.Tracks.{held_in}
use Rattle.sf_file.proofs.tracks.tables.Given as goal

abbrev pub invariant-loop-track : goal.invariant-loop-track
invariant-loop-track l = l.tables.items ≡ map stbl_of (rows_in (held_in (take l.track-index l.tracks)))
