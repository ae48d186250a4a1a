pub mod PlacesLaws
mod Lists
mod Entries
mod Changes
mod Inside
mod Removing
mod Widening
mod Searches
pub mod MappedPages
mod Merging
mod Cuts
mod Calls
pub mod Public
