-- What the crates above cite: facts that src/laws.rt states, by name.
use Rattle.std.proofs.Common.{ℕ, [], replicate}
use Rattle.sf_interleave.specs.Waiting.{OfTheirTracks}
pub use Rattle.sf_interleave.proofs.Waiting.{picked_first, picked_fewer, picked_least, picked_lowest, picked_none, none_waits, their_none, their_with, their_without, their_waiting}

pub their_first : (tracks : ℕ) → OfTheirTracks 0 (replicate tracks [])
their_first tracks = their_none tracks 0

pub ruleset pick_laws = (picked_first, picked_fewer, picked_least, picked_lowest, picked_none, none_waits)

pub ruleset track_laws = (their_first, their_with, their_without, their_waiting)
