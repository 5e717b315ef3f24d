pub mod Floor
pub mod Ticks
pub mod TickLaws
