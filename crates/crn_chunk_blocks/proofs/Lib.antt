pub mod Shapes
pub mod Positions
pub mod Ranges
