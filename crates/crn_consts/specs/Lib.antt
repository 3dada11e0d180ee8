-- What the functions of this crate give.
pub mod Entries
pub mod AlphaDeltas
pub mod Tiles
