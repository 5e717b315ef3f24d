-- What only ties the recording to what is said of it.
pub mod Advance
pub mod Deal
pub mod Headers
pub mod Finishing
pub mod InTurn
