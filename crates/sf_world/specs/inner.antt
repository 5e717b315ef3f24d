-- What only ties the code in memory to what it shows.
pub mod CallNumbers
pub mod Files
pub mod Memory
pub mod Room
