-- Numbers of several bytes that document 01 does not speak of.
pub mod Little
