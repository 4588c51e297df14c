pub mod Promised
pub mod PromisedTypes
