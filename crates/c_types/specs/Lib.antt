pub mod Types
pub mod Views
pub mod Sizes
pub mod Agreeing
pub mod Compatible
pub mod Steps
