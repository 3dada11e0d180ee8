pub mod Drawing
pub mod Indexing
pub mod Tiling
pub mod Picking
pub mod Encoding
pub mod Chunking
