pub mod Declaring
pub mod Stacks
pub mod Whole
