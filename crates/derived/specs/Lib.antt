pub mod Collars
pub mod Used
pub mod Derived
pub mod Tallies
