pub mod Words
pub mod Setting
pub mod Chains
pub mod Bytes
pub mod Refusals
