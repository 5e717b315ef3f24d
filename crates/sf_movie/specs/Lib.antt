pub mod Loaded
pub mod Loads
pub mod inner
