mod Alike
mod Counting
mod Early
mod Examples
