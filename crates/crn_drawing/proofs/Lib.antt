pub mod Formats
pub mod Reaching
pub mod Drawn
pub mod ByRecord
