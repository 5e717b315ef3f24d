pub mod Ranges
pub mod Reading
pub mod Values
pub mod Commands
pub mod inner
