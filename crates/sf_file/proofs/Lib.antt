pub mod Room
pub mod Heads
pub mod OneMore
pub mod MovieLengths
pub mod ClosedFile
pub mod Holdable
