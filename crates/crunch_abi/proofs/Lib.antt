pub mod Enough
pub mod Empty
pub mod Flat
