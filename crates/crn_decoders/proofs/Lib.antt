pub mod Parts
pub mod Made
pub mod Sized
