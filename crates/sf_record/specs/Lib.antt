-- What a reader believes of recording, from an input up to the files of several.
pub mod inner
pub mod Input
pub mod Said
pub mod Reading
pub mod Pump
pub mod Serial
pub mod Called
