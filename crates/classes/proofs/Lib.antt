pub mod Members
pub mod Normal
