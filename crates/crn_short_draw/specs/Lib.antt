-- What a cursor has at hand.
pub mod Filling
