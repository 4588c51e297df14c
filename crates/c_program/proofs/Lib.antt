mod Naming
pub mod Packed
