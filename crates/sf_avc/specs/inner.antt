pub mod Units
pub mod Tiling
pub mod Config
pub mod Sets
pub mod Taking
pub mod Values
