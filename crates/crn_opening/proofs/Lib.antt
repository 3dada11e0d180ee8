pub mod Refusals
pub mod SentTables
pub mod Checks
pub mod Streams
pub mod Opens
