pub mod Sheet
pub mod Halves
