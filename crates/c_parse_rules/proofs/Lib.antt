pub mod Laws
pub mod exprs
pub mod types
pub mod Knot
pub mod Promised
pub mod PromisedTypes
mod Examples
