pub mod inner
pub mod CodedFile
pub mod Progress
