pub mod Meanings
pub mod Sets
pub mod Copying
pub mod Keeping
pub mod Reaching
