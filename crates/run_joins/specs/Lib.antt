pub mod Joining
pub mod Periods
