pub mod Values
pub mod Inclusion
pub mod Mixes
mod Same
mod Making
pub mod Growing
