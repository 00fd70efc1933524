pub mod Bitwise
pub mod Laws
pub mod Calls
pub mod Every
pub mod Lists
pub mod Support
pub mod Swaps
