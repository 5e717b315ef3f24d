pub mod Words
pub mod Seats
pub mod Orders
pub mod Acts
pub mod Times
