-- What the crates above cite: facts that src/laws.rt states, by name.
pub use Rattle.sf_layout.proofs.FileBack.{layout_read}
pub use Rattle.sf_layout.proofs.ContentBack.{layout_content, layout_begins, layout_groups, layout_joined, layouts_joined}
pub use Rattle.sf_layout.proofs.EntriesBack.{made_entry}
pub use Rattle.sf_layout.proofs.FileEntries.{layout_entries}
pub use Rattle.sf_layout.proofs.GrownRows.{payload_grown, samples_grown, rows_grown, samples_kept, rows_kept}
pub use Rattle.sf_layout.proofs.GrownTracks.{tracks_grown, tracks_many, layout_parts, layout_long}
pub use Rattle.sf_layout.proofs.TrackRows.{rows_timed, rows_ticks}
pub use Rattle.sf_layout.proofs.Payload.{payload_of}
pub use Rattle.sf_layout.proofs.Starts.{start_early}

pub ruleset movie_laws = (layout_read, layout_content, layout_begins, layout_groups)

pub ruleset joined_laws = (layout_joined, layouts_joined)

pub ruleset growth_laws = (payload_grown, samples_grown, rows_grown, tracks_grown, samples_kept, rows_kept)

pub ruleset row_laws = (rows_timed, rows_ticks)

pub ruleset bound_laws = (payload_of, start_early)

pub ruleset part_laws = (layout_parts, layout_long, tracks_many)
