pub mod Growing
pub mod Rounds
