pub mod Tick
pub mod Samples
