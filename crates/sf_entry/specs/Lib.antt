pub mod Steps
pub mod Asc
pub mod Mp4a
pub mod Avc1
pub mod Esds
pub mod Stsd
pub mod TrackSetup
pub mod inner
