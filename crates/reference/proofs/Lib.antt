pub mod Bits
pub mod Least
