pub mod Drawing
pub mod Picture
pub mod Refusing
pub mod Near
