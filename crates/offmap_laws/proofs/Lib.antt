pub mod Among
pub mod Contents
pub mod Slots
pub mod Splitting
