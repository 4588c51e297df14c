pub mod Promises
pub mod Numbers
pub mod Integers
pub mod Converted
pub mod Soles
