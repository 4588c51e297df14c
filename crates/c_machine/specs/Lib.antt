pub mod Work
pub mod Jumps
pub mod Unfolding
pub mod Parts
pub mod Machine
pub mod Laws
pub mod Accesses
