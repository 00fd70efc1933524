pub mod Calls
pub mod Copying
pub mod NodeSets
