pub mod States
pub mod Steps
pub mod Shapes
pub mod Whole
