pub mod Current
pub mod SyncAt
pub mod Plan
pub mod HandedOut
pub mod Readout
pub mod Runs
pub mod inner
