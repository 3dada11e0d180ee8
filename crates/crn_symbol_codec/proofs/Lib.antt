pub mod Cut
pub mod Holding
pub mod Walking
pub mod Finding
pub mod Seeking
pub mod Drawing
pub mod Taking
pub mod Serving
