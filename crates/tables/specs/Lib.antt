pub mod Lists
pub mod Bits
pub mod Settings
pub mod Tables
pub mod Swaps
pub mod PerVariable
