pub mod Blocks
pub mod Stores
