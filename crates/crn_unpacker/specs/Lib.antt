pub mod States
pub mod Going
pub mod Rows
