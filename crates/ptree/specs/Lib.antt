pub mod Entries
pub mod Node
