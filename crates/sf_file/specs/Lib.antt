pub mod FileHead
pub mod Open
pub mod Holdable
pub mod inner
