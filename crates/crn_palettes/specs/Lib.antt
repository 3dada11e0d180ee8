-- What reading a palette answers, step by step.
pub mod Filling
pub mod Reaching
