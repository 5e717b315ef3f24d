pub mod Sound
pub mod Tracks
