pub mod Heads
pub mod Loops
pub mod Sound
pub mod Lengths
pub mod Telling
pub mod Reach
pub mod Exact
pub mod Leading
