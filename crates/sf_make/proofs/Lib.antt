pub mod Inputs
pub mod Reading
pub mod Generated
pub mod MakeLaws
