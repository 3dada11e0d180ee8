pub mod Lent
pub mod Records
