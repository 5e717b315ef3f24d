pub mod Faults
pub mod Rule
pub mod Tails
pub mod Writing
pub mod Waits
