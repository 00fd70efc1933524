pub mod Masks
pub mod Bounds
