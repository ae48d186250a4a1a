pub mod Pager
