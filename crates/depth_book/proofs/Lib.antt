pub mod Held
pub mod Finds
