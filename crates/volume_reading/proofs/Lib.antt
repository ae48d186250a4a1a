mod Appending
mod Faults
mod FilesFound
mod PageCopy
mod PageText
pub mod Public
mod ChainBlocks
mod Homes
mod LoggedFiles
mod Newest
mod Read
mod Volumes
