pub mod SelfTest
pub mod inner
