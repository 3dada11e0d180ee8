pub mod Tables
pub mod Planning
