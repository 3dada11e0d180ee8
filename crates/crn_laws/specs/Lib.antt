pub mod Scripts
pub mod Levels
pub mod Blocks
