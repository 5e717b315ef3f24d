pub mod Backs
pub mod Counting
pub mod KeptRows
pub mod RunLists
pub mod Tiling
pub mod BoxLengths
pub mod Spare
