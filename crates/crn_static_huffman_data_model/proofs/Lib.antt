pub mod Passing
pub mod Room
pub mod Counting
pub mod Sorting
pub mod Filling
pub mod Tabling
