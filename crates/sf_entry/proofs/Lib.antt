pub mod LengthLemmas
pub mod EntryLemmas
pub mod EsdsBack
pub mod EntriesBack
pub mod ConfigLength
pub mod SetupsBack
pub mod Widths
