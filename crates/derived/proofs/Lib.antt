pub mod Bands
pub mod Bounds
pub mod Folds
pub mod Legs
pub mod Leasts
