pub mod Language
pub mod Place
pub mod Sums
pub mod Views
