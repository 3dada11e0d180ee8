pub mod Table
pub mod Packed
pub mod Rule
