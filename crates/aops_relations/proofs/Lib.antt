pub mod Spots
pub mod Comparing
pub mod Differing
pub mod Tight
