pub mod Boxes
pub mod Parts
pub mod Reading
pub mod inner
