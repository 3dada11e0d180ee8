pub mod Halves
pub mod Colors
