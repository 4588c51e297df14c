pub mod Codes
pub mod Views
pub mod Parts
pub mod Widenings
