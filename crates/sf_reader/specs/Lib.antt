pub mod Dumps
pub mod Extracted
pub mod inner
