pub mod Memories
pub mod Meaning
