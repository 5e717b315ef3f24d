pub mod Accepting
pub mod Chunks
pub mod Gathered
pub mod Proper
pub mod inner
