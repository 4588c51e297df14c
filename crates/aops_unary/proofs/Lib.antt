pub mod Turning
pub mod Narrowing
