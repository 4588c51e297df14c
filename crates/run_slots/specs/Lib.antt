pub mod Slots
pub mod Walks
pub mod Weakens
pub mod Offsets
pub mod Repeats
