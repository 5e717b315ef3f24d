pub mod DumpLemmas
pub mod MissingLemmas
pub mod ReaderLemmas
pub mod WithinLemmas
