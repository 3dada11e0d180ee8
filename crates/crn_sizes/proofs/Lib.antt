pub mod Few
pub mod Enough
pub mod Counts
