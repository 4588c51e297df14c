pub mod Behind
pub mod Promises
