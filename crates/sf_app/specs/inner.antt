-- What only ties the code to the definitions.
pub mod Asked
pub mod Extraction
pub mod Fetching
pub mod Gathered
pub mod Load
pub mod Listing
