pub mod Parts
pub mod Wraps
pub mod Shifts
pub mod Spans
pub mod Masks
pub mod Bitwise
pub mod Promises
