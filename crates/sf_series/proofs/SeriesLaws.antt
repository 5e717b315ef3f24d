-- What the crates above cite: facts that src/laws.rt states, by name.
use Rattle.std.proofs.Common.{◌≡◌, ℕ, true, List, [], ◌++◌, map, Some, None, sym}
use Rattle.sf_tick.specs.declared.types.Chunk.{Chunk}
use Rattle.sf_entry.specs.declared.track_setup.TrackSetup.{TrackSetup}
use Rattle.sf_interleave.specs.Waiting.{earliest_front, list_of}
use Rattle.sf_series.specs.declared.limits.Limits.{Limits}
use Rattle.sf_series.specs.declared.limits.LimitShown.{LimitShown}
use Rattle.sf_series.specs.Files.{flat, chunks_of_track, OnlyOpenEmpty}
use Rattle.sf_series.specs.Switching.{Limit, put, switched}
use Rattle.sf_series.specs.Core.{Step, fresh, after}
use Rattle.std.specs.List.{AllByRecursion}
use Rattle.sf_series.specs.Within.{Within}
use Rattle.sf_series.specs.Dealt.{order_of, dealt}
pub use Rattle.sf_series.proofs.Files.{flat_into, flat_next}
pub use Rattle.sf_series.proofs.Switching.{switched_ends}
pub use Rattle.sf_series.proofs.Kept.{read_other, read_set}
pub use Rattle.sf_series.proofs.Lists.{some_inside}
pub use Rattle.sf_series.proofs.Shelving.{closed_long, closed_more, closed_open, long_into}
pub use Rattle.sf_series.proofs.Steps.{fresh_kept, hand_kept, write_kept, core_kept, failed_there, write_into, write_next, write_limit, write_idle}
pub use Rattle.sf_series.proofs.Dealt.{files_dealt}
pub use Rattle.sf_series.proofs.Shown.{put_shows}
pub use Rattle.sf_series.proofs.Within.{put_within, switched_within}
pub use Rattle.sf_series.proofs.Order.{order_next, order_none, order_is, same_fronts, proper_rises}
pub use Rattle.sf_series.proofs.WriteOrder.{order_said}
pub use Rattle.sf_series.proofs.ReadBack.{files_within, files_writable, files_joined, handed_joined, bytes_dealt, all_written, next_handed}
pub use Rattle.sf_series.proofs.Proper.{fresh_proper, hand_proper, write_proper, list_long, list_other, mark_other}
pub use Rattle.sf_series.proofs.SeriesBack.{finished_back, stopped_back, broken_back}
pub use Rattle.sf_series.proofs.Standing.{hand_taken}
pub use Rattle.sf_series.proofs.Handed.{handed_front, handed_all, handed_tracks}

pub core_there : (limits : Limits) (setups : List TrackSetup) (tracks : ℕ) (steps : List Step) (track : ℕ)
    → chunks_of_track track (after limits setups (fresh tracks) steps).files ++ list_of (after limits setups (fresh tracks) steps).pending track ≡ list_of (after limits setups (fresh tracks) steps).handed track
core_there limits setups tracks steps track = (core_kept limits setups tracks steps).there track

pub core_order : (limits : Limits) (setups : List TrackSetup) (tracks : ℕ) (steps : List Step)
    → switched limits setups (flat (after limits setups (fresh tracks) steps).files) ≡ record { files = (after limits setups (fresh tracks) steps).files; limit = None }
core_order limits setups tracks steps = (core_kept limits setups tracks steps).order

pub core_met : (limits : Limits) (setups : List TrackSetup) (tracks : ℕ) (steps : List Step) → (after limits setups (fresh tracks) steps).ended ≡ true
    → (c : Chunk) × (shown : LimitShown) × (earliest_front (after limits setups (fresh tracks) steps).pending ≡ Some c) × (put limits setups (after limits setups (fresh tracks) steps).files c ≡ Limit shown)
core_met limits setups tracks steps e = let met = (core_kept limits setups tracks steps).met e in (met.chunk, met.shown, met.next, met.limit)

pub core_only : (limits : Limits) (setups : List TrackSetup) (tracks : ℕ) (steps : List Step) → OnlyOpenEmpty (after limits setups (fresh tracks) steps).files
core_only limits setups tracks steps = (core_kept limits setups tracks steps).only

pub core_dealt : (limits : Limits) (setups : List TrackSetup) (tracks : ℕ) (steps : List Step)
    → dealt (map order_of (after limits setups (fresh tracks) steps).files) (after limits setups (fresh tracks) steps).handed ≡ (after limits setups (fresh tracks) steps).files
core_dealt limits setups tracks steps =
    files_dealt (after limits setups (fresh tracks) steps).files (after limits setups (fresh tracks) steps).handed (λ (t : ℕ). list_of (after limits setups (fresh tracks) steps).pending t)
    (λ t. sym (core_there limits setups tracks steps t))

pub core_within : (limits : Limits) (setups : List TrackSetup) (tracks : ℕ) (steps : List Step) → Within limits setups [] → AllByRecursion (λ file. Within limits setups file) (after limits setups (fresh tracks) steps).files
core_within limits setups tracks steps none =
    switched_within limits setups (flat (after limits setups (fresh tracks) steps).files) (after limits setups (fresh tracks) steps).files none (core_order limits setups tracks steps)

pub ruleset there_laws = (core_there, handed_all, handed_front, handed_tracks, failed_there, all_written)

pub ruleset write_laws = (next_handed, write_into, write_next, write_limit, write_idle, flat_into, flat_next)

pub ruleset order_laws = (core_order, core_met, put_shows, switched_ends, core_only)

pub ruleset dealt_laws = (core_dealt)

pub ruleset limit_laws = (switched_within, core_within, put_within)

pub ruleset read_laws = (files_writable, files_joined, handed_joined, order_said)

pub ruleset earliest_laws = (order_next, order_none, order_is, same_fronts, proper_rises)

pub ruleset series_laws = (finished_back, stopped_back, broken_back)

pub ruleset hand_laws = (hand_taken, list_long, list_other, mark_other, some_inside, read_set, read_other)

pub ruleset open_laws = (closed_open, closed_long, closed_more, long_into)
