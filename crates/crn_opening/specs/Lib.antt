pub mod SentTables
pub mod Streams
pub mod Opens
pub mod Lending
