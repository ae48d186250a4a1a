mod HomeBlocks
mod Rooms
mod Resizing
mod Setting
mod Faults
mod Reading
mod Seen
