pub mod Orders
pub mod Images
