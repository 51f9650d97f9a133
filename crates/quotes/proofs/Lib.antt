pub mod Parts
pub mod Replaces
pub mod Tops
pub mod Sheets
pub mod LessTaken
pub mod Walks
pub mod Trials
