pub mod Words
pub mod Units
