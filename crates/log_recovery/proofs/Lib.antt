pub mod OnlyReading
pub mod Blocks
pub mod Commits
pub mod Chained
pub mod LogEnds
