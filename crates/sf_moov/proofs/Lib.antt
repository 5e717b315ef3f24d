pub mod BoxLengths
mod TrakWalk
