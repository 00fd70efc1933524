pub mod Holding
pub mod Writing
pub mod Reading
pub mod Sound
pub mod Owning
pub mod Ones
pub mod Promises
