pub mod Births
pub mod Withering
