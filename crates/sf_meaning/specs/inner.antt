pub mod Entries
pub mod Found
pub mod Tracks
pub mod Faults
pub mod TrackTables
pub mod PlaceList
pub mod SizeList
