pub mod Unpacks
pub mod Levels
