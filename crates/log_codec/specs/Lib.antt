pub mod Log
pub mod Start
pub mod Commit
pub mod Broken
pub mod Seal
pub mod Chain
