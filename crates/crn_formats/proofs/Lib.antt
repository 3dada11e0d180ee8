pub mod Joined
pub mod ByFormat
pub mod Limited
