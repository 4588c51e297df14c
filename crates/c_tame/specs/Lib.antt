pub mod Whole
pub mod Uses
