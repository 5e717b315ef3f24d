pub mod Waiting
pub mod WaitingLaws
