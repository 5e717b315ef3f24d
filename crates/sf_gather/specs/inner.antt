pub mod Storing
pub mod Sound
