pub mod Coders
pub mod Codes
pub mod Rows
pub mod Back
pub mod Owned
pub mod Laws
