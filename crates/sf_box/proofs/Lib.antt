pub mod Numbers
pub mod Boxes
pub mod LeadingBoxes
pub mod Parts
pub mod Ending
pub mod Heads
pub mod BoxLaws
