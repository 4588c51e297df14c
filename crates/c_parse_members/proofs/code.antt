pub mod Constants
pub mod Specifying
