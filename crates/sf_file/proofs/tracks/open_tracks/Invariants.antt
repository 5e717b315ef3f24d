use Rattle.std.proofs.Common.{◌≡◌, map, take}
use Rattle.sf_file.specs.inner.Tracks.{fresh, held_in}
use Rattle.sf_file.proofs.tracks.open_tracks.Given as goal

abbrev pub invariant-loop-setup : goal.invariant-loop-setup
invariant-loop-setup l = held_in l.tracks.items ≡ map fresh (take l.setup-index l.setups)
