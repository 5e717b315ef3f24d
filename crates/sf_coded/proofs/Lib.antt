pub mod Windows
pub mod Firsts
pub mod Records
