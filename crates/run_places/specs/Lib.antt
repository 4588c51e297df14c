pub mod Spots
pub mod Chunks
pub mod Stretches
pub mod Widens
