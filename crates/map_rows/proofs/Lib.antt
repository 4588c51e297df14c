mod Gathering
pub mod Rows
mod Stretches
