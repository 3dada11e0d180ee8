pub mod Level
pub mod Places
pub mod Filling
pub mod Covering
pub mod Passing
pub mod Numbers
pub mod Writing
pub mod Dds
