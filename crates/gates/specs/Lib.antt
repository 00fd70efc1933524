pub mod Keeping
pub mod Parts
pub mod Gates
pub mod Laws
