pub mod Narrow
pub mod Boxes
pub mod Refused
