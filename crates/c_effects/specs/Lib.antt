pub mod Ranges
pub mod Images
pub mod Passing
