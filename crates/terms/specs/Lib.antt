pub mod Sides
pub mod Kinds
pub mod Refusals
pub mod Strategies
pub mod Made
