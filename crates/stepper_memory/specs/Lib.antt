pub mod Putting
pub mod Views
