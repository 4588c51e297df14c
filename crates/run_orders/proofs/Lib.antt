pub mod Including
pub mod Alone
pub mod Leaving
