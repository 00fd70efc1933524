pub mod Refusals
pub mod Netlists
pub mod Normal
pub mod Placing
pub mod Lawful
pub mod Meaning
pub mod Copies
