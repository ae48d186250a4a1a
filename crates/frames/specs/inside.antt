pub mod Order
pub mod Pages
