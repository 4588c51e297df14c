pub mod Declaring
pub mod Shaped
pub mod Steps
