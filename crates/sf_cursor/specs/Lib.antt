pub mod Cursor
pub mod inner
