pub mod Meaning
pub mod Parts
pub mod Reads
