-- What only ties the reading to what a file says.
pub mod Steps
pub mod Window
