mod Carrying
mod Counting
mod Deferring
mod Pasts
mod Rooms
mod Waits
