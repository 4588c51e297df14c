pub mod Given
pub mod Words
pub mod Beginnings
pub mod Choices
pub mod Declarations
pub mod Statements
pub mod Exactly
mod Examples
