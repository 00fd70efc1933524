pub mod Hex
pub mod Kinds
pub mod Names
