pub mod Headers
pub mod MovieBox
pub mod Layout
pub mod Written
pub mod Writable
