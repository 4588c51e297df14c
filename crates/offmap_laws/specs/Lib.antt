pub mod Offsets
pub mod Contents
pub mod Slots
pub mod Parts
