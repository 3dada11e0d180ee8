pub mod Telling
pub mod Sending
pub mod Running
pub mod Putting
pub mod Receiving
pub mod Growing
