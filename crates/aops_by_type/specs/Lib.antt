pub mod Typed
pub mod Uses
