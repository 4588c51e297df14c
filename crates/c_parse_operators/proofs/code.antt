pub mod Extending
pub mod Levels
