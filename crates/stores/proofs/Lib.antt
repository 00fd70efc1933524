pub mod Chunks
pub mod Stores
