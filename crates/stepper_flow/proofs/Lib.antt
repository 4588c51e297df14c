pub mod Heads
pub mod InOrder
