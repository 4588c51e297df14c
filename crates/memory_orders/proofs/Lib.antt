pub mod Merged
pub mod Below
