pub mod Several
pub mod Answers
