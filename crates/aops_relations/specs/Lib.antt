pub mod Placed
pub mod Comparisons
pub mod Differences
pub mod Soles
