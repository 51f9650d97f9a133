pub mod Shown
pub mod Takes
pub mod Tops
pub mod Sheets
pub mod Trials
