-- The values from which the lines of a trace are written.
pub mod Written
pub mod Words
