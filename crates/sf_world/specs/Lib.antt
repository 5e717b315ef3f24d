pub mod inner
pub mod Contents
pub mod Counts
pub mod GateName
pub mod Holes
pub mod Named
pub mod Views
