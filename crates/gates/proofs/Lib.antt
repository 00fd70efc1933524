pub mod Rows
pub mod Calls
