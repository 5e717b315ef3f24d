pub mod ContentsLemmas
pub mod FilesLemmas
pub mod Filling
pub mod GrownLemmas
pub mod KeptLemmas
pub mod LaidLemmas
