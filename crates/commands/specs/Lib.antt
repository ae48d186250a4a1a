pub mod Failure
pub mod Replies
pub mod inside
pub mod Printed
