pub mod Sheet
pub mod Answers
