pub mod Changing
pub mod Packing
pub mod Pairing
