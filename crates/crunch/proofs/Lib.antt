pub mod Zeroed
pub mod LookThenLoad
