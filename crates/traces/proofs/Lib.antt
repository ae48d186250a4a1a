mod Entries
mod Items
mod Written
