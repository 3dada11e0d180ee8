pub mod Near
pub mod Sound
pub mod Packed
pub mod Order
pub mod Examples
