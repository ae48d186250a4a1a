pub mod Entries
pub mod Dirty
mod Masks
mod Trees
mod Links
mod Ranges
mod Searching
mod PageEdits
mod View
mod Dirties
mod Tables
mod Marking
mod Marked
mod MarkedEdits
mod MarkedNotes
mod Choices
mod NextPage
