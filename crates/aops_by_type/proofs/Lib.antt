pub mod Typing
pub mod Using
