pub mod Merging
pub mod Walking
mod Commons
