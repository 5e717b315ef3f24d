pub mod Writing
pub mod Generator
