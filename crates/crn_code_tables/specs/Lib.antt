pub mod Receiving
pub mod Parts
