pub mod Classes
pub mod Plans
pub mod Tables
