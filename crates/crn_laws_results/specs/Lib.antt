pub mod Settled
pub mod Seen
pub mod Draws
