pub mod Moving
pub mod Pairs
