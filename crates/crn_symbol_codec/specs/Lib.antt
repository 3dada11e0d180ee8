pub mod Cursors
pub mod Taking
pub mod Decoders
pub mod Drawing
pub mod Telling
