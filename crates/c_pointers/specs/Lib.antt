pub mod Conversions
pub mod Addresses
pub mod Pointers
