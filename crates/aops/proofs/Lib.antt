pub mod Sorts
pub mod Possible
pub mod Giving
pub mod Converting
pub mod Narrow
pub mod Soles
pub mod Alone
