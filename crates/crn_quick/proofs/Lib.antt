pub mod Stepping
pub mod Joining
