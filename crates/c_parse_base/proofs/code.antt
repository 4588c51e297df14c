pub mod Newest
pub mod Loops
pub mod Literals
