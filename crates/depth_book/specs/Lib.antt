pub mod Levels
pub mod Memories
pub mod Books
