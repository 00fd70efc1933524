pub mod Owned
pub mod Members
pub mod Normal
