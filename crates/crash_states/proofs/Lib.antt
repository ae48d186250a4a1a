mod Growing
pub mod Listed
pub mod Until
