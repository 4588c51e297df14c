pub mod Codes
pub mod Widened
