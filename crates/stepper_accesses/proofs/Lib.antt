pub mod Births
pub mod Reaching
