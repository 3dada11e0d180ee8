pub mod Answers
pub mod Sizes
pub mod Version
pub mod Opening
